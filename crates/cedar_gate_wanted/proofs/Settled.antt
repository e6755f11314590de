-- What a step of settling does.
use Rattle.std.proofs.Common.{◌≡◌, ◌⊎◌, inl, inr, ℕ, suc, List, [], ◌∷◌, ◌++◌, Contains, Option, Some, None, ◌<◌, ◌≤◌, refl, sym, ◌∙◌, subst, arith}
use Rattle.cedar_gate_wanted.specs.Near.{IsBelow}
use Rattle.cedar_gate_wanted.specs.Kept.{IsKept, IsSettling, IsFollowed}
use Rattle.std.proofs.Common.{Bool, true, false, length, ◌+◌}
use Rattle.std.specs.Prelude.{IsTrue, ◌↔◌}
use Rattle.std.specs.Map.{lookup}
use Rattle.std.specs.Option.{option_map_or}
use Rattle.std.specs.declared.alloc.Global.{Global}
use Rattle.std.specs.declared.vec.Vec.{Vec}
use Rattle.cedar_expr_model.specs.Uid.{Uid}
use Rattle.cedar_expr_names.specs.declared.entity.EntityUID.{EntityUID}
use Rattle.cedar_gate_wanted.specs.Rows.{IsPending, row_of, uids}
use Rattle.std.proofs.Common.{ap}
use Rattle.std.proofs.lemmas.List.{map-append}
use Rattle.cedar_expr_names.specs.Views.{uid_of}
use Rattle.cedar_gate_wanted.proofs.Settling.{settled, settling_followed}
use Rattle.cedar_gate_wanted.proofs.Following.{settling_followed_all}

some_one : (a b : ℕ) (o : Option ℕ) → o ≡ Some a → o ≡ Some b → a ≡ b
some_one a b o p q = cc

-- the row at d was followed
pub settle_step : (r : List Uid) (m : Uid → List Uid) (n : ℕ) (f g : Uid → Option ℕ) (old new : ℕ → List Uid) (d e : ℕ) (keys now : List Uid) → suc d < n → e ≡ suc d → keys ≡ old d → now ≡ new e → ((k : ℕ) → (k ≡ d) ⊎ ((v : Uid) → Contains (old k) v → Contains (new k) v)) → IsFollowed m f g d keys now → IsSettling r m n f (IsPending old f) → IsSettling r m n g (IsPending new g)
settle_step r m n f g old new d e keys now lt next row there carry l s =
    settling_followed_all r m n f g (IsPending old f) (IsPending new g) d keys now s lt l left
    (λ v at c. (suc d, at, subst (λ k. Contains (new k) v) next (subst (λ xs. Contains xs v) there c)))
  where
    left : (v : Uid) → IsPending old f v → g v ≡ f v → IsPending new g v ⊎ (Contains keys v × (f v ≡ Some d))
    left v (k, at, c) same = elim (carry k) [
      | inl this ↦ inr (subst (λ xs. Contains xs v) (sym row) (subst (λ j. Contains (old j) v) this c), subst (λ j. f v ≡ Some j) this at)
      | inr keep ↦ inl (k, same ∙ at, keep v c)
    ]

-- the row at d was too far to be followed
pub settle_drop : (r : List Uid) (m : Uid → List Uid) (n : ℕ) (f : Uid → Option ℕ) (old new : ℕ → List Uid) (d : ℕ) → n ≤ suc d → ((k : ℕ) → (k ≡ d) ⊎ ((v : Uid) → Contains (old k) v → Contains (new k) v)) → IsSettling r m n f (IsPending old f) → IsSettling r m n f (IsPending new f)
settle_drop r m n f old new d far carry s = settling_followed r m n f (IsPending old f) (IsPending new f) s left where
  left : (v : Uid) → IsPending old f v → IsPending new f v ⊎ ((u : Uid) (e : ℕ) → f v ≡ Some e → Contains (m v) u → suc e < n → IsBelow f (suc (suc e)) u)
  left v (k, at, c) = elim (carry k) [
    | inl this ↦ inr (λ u e is in_m lt. let h : e ≡ k = some_one e k (f v) is at in absurd (omega arith))
    | inr keep ↦ inl (k, at, keep v c)
  ]

-- nothing is left
pub settle_end : (r : List Uid) (m : Uid → List Uid) (n : ℕ) (f : Uid → Option ℕ) (rows : ℕ → List Uid) → ((q : ℕ) → rows q ≡ []) → IsSettling r m n f (IsPending rows f) → IsKept r m n f
settle_end r m n f rows none s = settled r m n f (IsPending rows f) s nothing where
  nothing : (x : Uid) → IsPending rows f x → ⊥
  nothing x (d, at, c) = let (k, lt, is) = subst (λ xs. Contains xs x) (none d) c in let e : k < 0 = lt in omega arith

-- rows over a step
pub carried : (a b c : ℕ → Option (Vec EntityUID Global)) (d e : ℕ) → ((k : ℕ) → (k ≡ d) ⊎ (b k ≡ a k)) → ((k : ℕ) → (k ≡ e) ⊎ (c k ≡ b k)) → ((x : Uid) → Contains (row_of b e) x → Contains (row_of c e) x) → (k : ℕ) → (k ≡ d) ⊎ ((v : Uid) → Contains (row_of a k) v → Contains (row_of c k) v)
carried a b c d e first second row k = elim (first k) [
  | inl this ↦ inl this
  | inr same ↦ elim (second k) [
    | inl next ↦ inr (λ v m. subst (λ j. Contains (row_of c j) v) (sym next) (row v (subst (λ j. Contains (row_of b j) v) next (subst (λ o. Contains (option_map_or (λ r. uids r.items) o []) v) (sym same) m))))
    | inr kept ↦ inr (λ v m. subst (λ o. Contains (option_map_or (λ r. uids r.items) o []) v) (sym kept) (subst (λ o. Contains (option_map_or (λ r. uids r.items) o []) v) (sym same) m))
  ]
]

pub carried_once : (a b : ℕ → Option (Vec EntityUID Global)) (d : ℕ) → ((k : ℕ) → (k ≡ d) ⊎ (b k ≡ a k)) → (k : ℕ) → (k ≡ d) ⊎ ((v : Uid) → Contains (row_of a k) v → Contains (row_of b k) v)
carried_once a b d first k = elim (first k) [
  | inl this ↦ inl this
  | inr same ↦ inr (λ v m. subst (λ o. Contains (option_map_or (λ r. uids r.items) o []) v) (sym same) m)
]

pub not_below : (b : Bool) (a n : ℕ) → IsTrue b ↔ (a + 1 < n) → b ≡ false → n ≤ suc a
not_below b a n i is =
    let no : a + 1 < n → ⊥ = λ lt. (let yes : b ≡ true = i.1 lt in cc) in
    omega arith

pub no_entries : {V : Type 0} (es : List (ℕ × V)) (t : ℕ → Bool) → (0 < length es → ⊥) → lookup t es ≡ None
no_entries [] t h = refl
no_entries (e ∷ es) t h = absurd (h (omega arith))

pub not_among_none : {X : Type 0} (x : X) → Contains [] x → ⊥
not_among_none x (k, lt, is) = let e : k < 0 = lt in omega arith

-- one more in the row that is put back
pub pushed_row : (old new : ℕ → Option (Vec EntityUID Global)) (d : ℕ) (u : EntityUID) (row more : Vec EntityUID Global) → new d ≡ Some more → more.items ≡ row.items ++ u ∷ [] → uids row.items ≡ row_of old d → row_of new d ≡ row_of old d ++ uid_of u ∷ []
pushed_row old new d u row more here pushed was =
    ap (λ o. option_map_or (λ r. uids r.items) o []) here
    ∙ ap uids pushed
    ∙ map-append uid_of row.items (u ∷ [])
    ∙ ap (λ xs. xs ++ uid_of u ∷ []) was
