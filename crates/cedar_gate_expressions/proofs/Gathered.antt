-- Reading item by item: what is read so far, then the rest, is the whole.
use Rattle.std.proofs.Common.{◌≡◌, ℕ, List, [], ◌∷◌, ◌++◌, map, String, Global, string_bytes, Option, Some, None, option_map, refl, ap, append_assoc}
use Rattle.std.proofs.lemmas.List.{map-append}
use Rattle.serde_json.specs.Data.{Data}
use Rattle.serde_json.specs.View.{view, members_view}
use Rattle.serde_json.specs.declared.value.Value.{Value}
use Rattle.cedar_gate_model.specs.Reading.{each_member}

-- what was read, before what is read of the rest
abbrev pub then_rest : {A : Type 0} → List A → Option (List A) → Option (List A)
then_rest done rest = option_map (λ more. done ++ more) rest

pub nothing_before : {A : Type 0} (rest : Option (List A)) → then_rest [] rest ≡ rest
nothing_before None = refl
nothing_before (Some more) = refl

pub one_more : {A : Type 0} (done : List A) (a : A) (rest : Option (List A)) → then_rest (done ++ a ∷ []) rest ≡ then_rest done (option_map (λ more. a ∷ more) rest)
one_more done a None = refl
one_more done a (Some more) = ap Some (append_assoc done (a ∷ []) more)

-- one more member, which is read
pub next_member : {T A : Type 0} (reading : List ℕ → Data → Option A) (seen : T → A) (done : List T) (x : T) (e : String Global × Value) (left rest : List (String Global × Value))
    → rest ≡ e ∷ left → reading (string_bytes e.0) (view e.1) ≡ Some (seen x)
    → then_rest (map seen (done ++ x ∷ [])) (each_member reading (members_view left)) ≡ then_rest (map seen done) (each_member reading (members_view rest))
next_member reading seen done x e left rest is h = rw (is, h, map-append) (one_more (map seen done) (seen x) _)
