-- A walk along policies that remembers the ids that it has met.
use Rattle.std.proofs.Common.{◌≡◌, ℕ, ◌+◌, ◌<◌, ◌≤◌, Bool, true, false, cond, List, [], ◌∷◌, ◌++◌, ◌||◌, length, get_or, drop, drop-cons, add-one, refl, ap, sym, ◌∙◌}
use Rattle.std.specs.Prelude.{map, is_none}
use Rattle.std.specs.Bool.{Decides}
use Rattle.std.specs.Cmp.Lexicographic.{slice_cmp}
use Rattle.std.specs.List.{list_any}
use Rattle.std.specs.Ordering.{is_eq, nat_cmp}
use Rattle.std.specs.Str.{bytes_eq}
use Rattle.std.proofs.lemmas.List.{drop_all}
use Rattle.std.proofs.lemmas.List.Folds.{list_any-append}
use Rattle.std.proofs.lemmas.Map.Text.{is_eq-slice_cmp}
use Rattle.std.proofs.lemmas.Slice.Eq.{bytes_eq-Decides}
use Rattle.cedar_expr_model.specs.Name.{Text}
use Rattle.cedar_expr_model.specs.Repeats.{first_again}
use Rattle.cedar_store_model.specs.Answer.{ids}
use Rattle.cedar_store_model.specs.Policy.{Policy}

decided_alike : {P Q : Type 0} (b c : Bool) → Decides b P → Decides c Q → (P → Q) → (Q → P) → b ≡ c
decided_alike true true d e f g = refl
decided_alike true false d e f g = sym (e.1 (f (d.0 refl)))
decided_alike false true d e f g = d.1 (g (e.0 refl))
decided_alike false false d e f g = refl

same_either_way : (s t : Text) → bytes_eq s t ≡ bytes_eq t s
same_either_way s t = decided_alike (bytes_eq s t) (bytes_eq t s) (bytes_eq-Decides s t) (bytes_eq-Decides t s) sym sym

-- what is remembered is what was met
abbrev pub Knows : {K : Type 0} → (K → Text) → (K → Bool) → List Text → Type 0
Knows {K} text known before = (k : K) → known k ≡ list_any (bytes_eq (text k)) before

one_more : (b c : Bool) → cond b true c ≡ (c || (b || false))
one_more true true = refl
one_more true false = refl
one_more false true = refl
one_more false false = refl

pub knows_nothing : {K : Type 0} (text : K → Text) (known : K → Bool) → ((k : K) → known k ≡ false) → Knows text known []
knows_nothing text known h k = h k

pub knows_more : {K : Type 0} (text : K → Text) (known new : K → Bool) (before : List Text) (x : K) → Knows text known before
    → ((k : K) → new k ≡ cond (is_eq (slice_cmp nat_cmp (text x) (text k))) true (known k)) → Knows text new (before ++ text x ∷ [])
knows_more text known new before x knows more k =
    more k
    ∙ ap (λ b. cond b true (known k)) (is_eq-slice_cmp (text x) (text k) ∙ same_either_way (text x) (text k))
    ∙ ap (λ c. cond (bytes_eq (text k) (text x)) true c) (knows k)
    ∙ one_more (bytes_eq (text k) (text x)) (list_any (bytes_eq (text k)) before)
    ∙ sym (list_any-append (bytes_eq (text k)) before (text x ∷ []))

module _ {P : Type 0} (f : P → Policy) where
  -- none of these has an id that was met before, and no two of them have one
  abbrev pub is_fresh : List Text → List P → Bool
  is_fresh before ps = is_none (first_again bytes_eq before (ids (map f ps)))

  at_item : (before : List Text) (ps : List P) (i : ℕ) (d : P) → i < length ps → is_fresh before (drop i ps) ≡ is_fresh before (get_or ps i d ∷ drop (i + 1) ps)
  at_item before ps i d h = ap (is_fresh before) (drop-cons ps i d h ∙ ap (λ (n : ℕ). get_or ps i d ∷ drop n ps) (sym (add-one i)))

  decide : (before : List Text) (p : P) (ps : List P) (b : Bool) → list_any (bytes_eq (f p).id) before ≡ b → is_fresh before (p ∷ ps) ≡ cond b false (is_fresh (before ++ (f p).id ∷ []) ps)
  decide before p ps true h = rw h refl
  decide before p ps false h = rw h refl

  pub walk_stops : (before : List Text) (ps : List P) (i : ℕ) (d : P) (all : Bool) → i < length ps → list_any (bytes_eq (f (get_or ps i d)).id) before ≡ true → is_fresh before (drop i ps) ≡ all → false ≡ all
  walk_stops before ps i d all h met so_far = sym (at_item before ps i d h ∙ decide before (get_or ps i d) (drop (i + 1) ps) true met) ∙ so_far

  pub walk_goes : (before : List Text) (ps : List P) (i : ℕ) (d : P) (all : Bool) → i < length ps → list_any (bytes_eq (f (get_or ps i d)).id) before ≡ false → is_fresh before (drop i ps) ≡ all
      → is_fresh (before ++ (f (get_or ps i d)).id ∷ []) (drop (i + 1) ps) ≡ all
  walk_goes before ps i d all h met so_far = sym (at_item before ps i d h ∙ decide before (get_or ps i d) (drop (i + 1) ps) false met) ∙ so_far

  pub walk_ends : (before : List Text) (ps : List P) (i : ℕ) (all : Bool) → length ps ≤ i → is_fresh before (drop i ps) ≡ all → true ≡ all
  walk_ends before ps i all h so_far = ap (is_fresh before) (sym (drop_all i ps h)) ∙ so_far
