-- Objects with few keys: no other key is there.
use Rattle.std.proofs.Common.{◌≡◌, ℕ, ◌||◌, List, [], ◌∷◌, Bool, true, false, Option, Some, None, refl, rules, subst, sym, ◌∙◌}
use Rattle.std.specs.List.{list_any}
use Rattle.std.specs.Ordering.{match_ordering, nat_cmp}
use Rattle.std.specs.Cmp.Lexicographic.{slice_cmp}
use Rattle.std.specs.Str.{bytes_eq}
use Rattle.std.proofs.lemmas.Slice.Eq.{bytes_eq-Decides}
use Rattle.serde_json.specs.Data.{Data, null, boolean, number, string, array, object, Members, no_members, member}
use Rattle.serde_json.specs.Find.{get, get_member}
use Rattle.cedar_expr_model.specs.Name.{Text}
use Rattle.cedar_expr_model.specs.Lists.{when}
use Rattle.cedar_expr_model.proofs.Lists.{both_hold}
use Rattle.cedar_gate_model.specs.Reading.{given, has_only, are_among}
use Rattle.cedar_gate_model.specs.ReadingForms.{alone}

-- a key that is compared as another than this one, and than each of these
abbrev pub IsOther : Text → Text → Type 0
IsOther j k = (x y : Option Data) → match_ordering (slice_cmp nat_cmp j k) x y x ≡ x

abbrev pub AreOther : Text → List Text → Type 0
AreOther j [] = Unit {0}
AreOther j (k ∷ ks) = IsOther j k × AreOther j ks

same_key : (key k : Text) → bytes_eq key k ≡ true → k ≡ key
same_key key k h = search (rules, bytes_eq-Decides key k)

other_among : (j : Text) (ks : List Text) (l : Text) → AreOther j ks → list_any (λ k. bytes_eq k l) ks ≡ true → IsOther j l
other_among j [] l o h = absurd (cc)
other_among j (k ∷ ks) l o h =
    elim (bytes_eq k l) as (λ b. bytes_eq k l ≡ b → b || list_any (λ k. bytes_eq k l) ks ≡ true → IsOther j l) [
      | true ↦ λ e t. subst (IsOther j) (sym (same_key k l e)) o.0
      | false ↦ λ e t. other_among j ks l o.1 t
    ] refl h

lacks : (j : Text) (ks : List Text) → AreOther j ks → (ms : Members) → are_among ks ms ≡ true → get_member j ms ≡ None
lacks j ks o no_members t = refl
lacks j ks o (member l d ms) t =
    let p = both_hold (list_any (λ k. bytes_eq k l) ks) (are_among ks ms) t in
    other_among j ks l o p.0 (get_member j ms) (Some d) ∙ lacks j ks o ms p.1

pub get_lacks : (j : Text) (ks : List Text) → AreOther j ks → (d : Data) → has_only ks d ≡ true → get j d ≡ None
get_lacks j ks o null t = refl
get_lacks j ks o (boolean b) t = refl
get_lacks j ks o (number n) t = refl
get_lacks j ks o (string s) t = refl
get_lacks j ks o (array ds) t = refl
get_lacks j ks o (object ms) t = lacks j ks o ms t

pub none_when : {A : Type 0} (b : Bool) → when {A = A} b None ≡ None
none_when true = refl
none_when false = refl

pub none_given : {A B : Type 0} (o : Option A) → given {B = B} o (λ a. None) ≡ None
none_given None = refl
none_given (Some a) = refl

-- a form with one key alone: where there is another key, where that is the only one, and where it isn't
pub not_alone : {A : Type 0} (j : Text) (ks : List Text) → AreOther j ks → (read : Data → Option A) (d : Data) → has_only ks d ≡ true → alone j read d ≡ None
not_alone j ks o read d t = rw (get_lacks j ks o d t) (none_when _)

pub is_alone : {A : Type 0} (k : Text) (read : Data → Option A) (d : Data) → has_only (k ∷ []) d ≡ true → alone k read d ≡ given (get k d) read
is_alone k read d h = rw h refl

pub is_not : {A : Type 0} (k : Text) (read : Data → Option A) (d : Data) → has_only (k ∷ []) d ≡ false → alone k read d ≡ None
is_not k read d h = rw h refl
