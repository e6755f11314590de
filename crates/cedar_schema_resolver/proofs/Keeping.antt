-- Names under which types are kept, one after the other.
use Rattle.std.proofs.Common.{◌≡◌, ℕ, ◌<◌, ◌≤◌, ◌+◌, Bool, true, false, cond, ◌⊎◌, List, [], ◌∷◌, ◌++◌, length, get_or, take, Option, Some, None, is_some, refl, sym, ap, ◌∙◌, subst, inl, inr}
use Rattle.std.proofs.lemmas.List.{take_more, take_all}
use Rattle.std.proofs.lemmas.List.Elements.{Contains-append_left, Contains-push_cases, Contains-push}
use Rattle.std.proofs.lemmas.Bool.{true≢false}
use Rattle.std.specs.Prelude.{Contains}
use Rattle.cedar_expr_model.specs.Name.{Name, name_eq}
use Rattle.cedar_expr_model.proofs.Equality.{name_eq-Decides}
use Rattle.cedar_expr_model.proofs.Lists.{contains_none, map_has}
use Rattle.cedar_schema_model.specs.Types.{Ty}
use Rattle.cedar_schema_decl.specs.Defined.{Defined}
use Rattle.cedar_schema_decl.specs.Forms.{TypeForm}
use Rattle.cedar_schema_resolver.specs.Numbers.{IsAt}
use Rattle.cedar_schema_resolver.proofs.Places.{at_in, in_at, at_one}
use Rattle.cedar_schema_resolver.specs.Commons.{none_kept, kept_with}
use Rattle.cedar_schema_resolver.specs.Solved.{names_of, AreKept, AreSorted}
use Rattle.cedar_schema_resolver.proofs.Solving.{is_done}

-- What is kept under the names of these numbers of the common types, and under no other.
pub record AreKeptBy (ts : List (Name × TypeForm Name)) (done : List ℕ) (kept : Name → Option Ty) : Type 0 where
  pub each : (i : ℕ) (p : Name × TypeForm Name) → Contains done i → IsAt ts i p → is_some (kept p.0) ≡ true
  pub others : (n : Name) → ((i : ℕ) (p : Name × TypeForm Name) → Contains done i → IsAt ts i p → p.0 ≡ n → ⊥) → kept n ≡ None

pub none_kept_by : (ts : List (Name × TypeForm Name)) (kept : Name → Option Ty) → kept ≡ none_kept → AreKeptBy ts [] kept
none_kept_by ts kept e = record {
  each = λ i p h a. absurd (contains_none i h);
  others = λ n h. ap (λ f. f n) e;
}

-- with one more
one_more : (m n : Name) (t : Ty) (kept : Name → Option Ty) → (is_some (kept n) ≡ true) ⊎ (n ≡ m) → is_some (kept_with m t kept n) ≡ true
one_more m n t kept h = go (name_eq n m) refl h
  where
    go : (b : Bool) → name_eq n m ≡ b → (is_some (kept n) ≡ true) ⊎ (n ≡ m) → is_some (cond b (Some t) (kept n)) ≡ true
    go true e h = refl
    go false e (inl h) = h
    go false e (inr h) = absurd (true≢false (sym ((name_eq-Decides n m).1 h) ∙ e))

no_more : (m n : Name) (t : Ty) (kept : Name → Option Ty) → kept n ≡ None → (n ≡ m → ⊥) → kept_with m t kept n ≡ None
no_more m n t kept h k = go (name_eq n m) refl
  where
    go : (b : Bool) → name_eq n m ≡ b → cond b (Some t) (kept n) ≡ None
    go true e = absurd (k ((name_eq-Decides n m).0 e))
    go false e = h

module _ (ts : List (Name × TypeForm Name)) (is : List ℕ) where
  pub next_kept : (k : ℕ) → k < length is → (p : Name × TypeForm Name) → IsAt ts (get_or is k 0) p → (t : Ty) (kept made : Name → Option Ty) → made ≡ kept_with p.0 t kept → AreKeptBy ts (take k is) kept → AreKeptBy ts (take (k + 1) is) made
  next_kept k l p at t kept made e before = subst (AreKeptBy ts (take (k + 1) is)) (sym e) (subst (λ js. AreKeptBy ts js (kept_with p.0 t kept)) (sym (take_more is k 0 l)) all)
    where
      under : (i : ℕ) (q : Name × TypeForm Name) → IsAt ts i q → Contains (take k is) i ⊎ (get_or is k 0 ≡ i) → (is_some (kept q.0) ≡ true) ⊎ (q.0 ≡ p.0)
      under i q a (inl h) = inl (before.each i q h a)
      under i q a (inr h) = inr (ap (λ (r : Name × TypeForm Name). r.0) (sym (at_one ts i p q (subst (λ j. IsAt ts j p) h at) a)))

      all : AreKeptBy ts (take k is ++ get_or is k 0 ∷ []) (kept_with p.0 t kept)
      all = record {
        each = λ i q h a. one_more p.0 q.0 t kept (under i q a (Contains-push_cases (take k is) (get_or is k 0) i h));
        others = λ n h. no_more p.0 n t kept (before.others n (λ i q m a e. h i q (Contains-append_left (take k is) (get_or is k 0 ∷ []) i m) a e)) (λ e. h (get_or is k 0) p (Contains-push (take k is) (get_or is k 0)) at (sym e));
      }

-- when all are
pub all_kept : (d : Defined) (x : List Name) (ts : List (Name × TypeForm Name)) (is : List ℕ) → AreSorted d ts is → (k : ℕ) (kept : Name → Option Ty) → length is ≤ k → AreKeptBy ts (take k is) kept → AreKept ts kept
all_kept d x ts is sorted k kept l part = made (subst (λ js. AreKeptBy ts js kept) (take_all k is l) part)
  where
    made : AreKeptBy ts is kept → AreKept ts kept
    made by = record {
      each = λ n t h. let a = in_at ts (n, t) h in by.each a.0 (n, t) (is_done d x ts is sorted a.0 (n, t) a.1) a.1;
      others = λ n h. by.others n (λ i p m a e. h (subst (Contains (names_of ts)) e (map_has (λ (q : Name × TypeForm Name). q.0) ts p (at_in ts i p a))));
    }
