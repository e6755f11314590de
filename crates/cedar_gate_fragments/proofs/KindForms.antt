-- Which form an entity type has, by its keys.
use Rattle.std.proofs.Common.{◌≡◌, [], ◌∷◌, codes, List, true, false, Option, Some, None, option_map, refl, ap, ◌∙◌}
use Rattle.std.specs.Option.{option_or}
use Rattle.serde_json.specs.Data.{Data}
use Rattle.serde_json.specs.Find.{get}
use Rattle.cedar_expr_model.specs.Name.{Name}
use Rattle.cedar_expr_model.specs.Lists.{when}
use Rattle.cedar_schema_model.specs.Declarations.{KindExpr, enumerated_expr, external_expr}
use Rattle.cedar_gate_model.specs.Reading.{given, has_only, list_of}
use Rattle.cedar_gate_model.specs.ReadingForms.{read_as, alone}
use Rattle.cedar_gate_model.specs.ReadingName.{any_name_read}
use Rattle.cedar_gate_model.specs.ReadingSchema.{standard_read, enumerated_read, kind_read}
use Rattle.cedar_gate_expressions.proofs.Keys.{not_alone, is_alone, is_not}
use Rattle.cedar_gate_fragments.specs.Written.{ids_read}

abbrev externals : Data → Option (List Name × KindExpr)
externals d = read_as (λ parents. (parents, external_expr)) (list_of any_name_read) d

or_none : {A : Type 0} (o : Option A) → option_or o None ≡ o
or_none None = refl
or_none (Some a) = refl

one_of : {A : Type 0} (a b c : Option A) → b ≡ None → c ≡ None → option_or a (option_or b (option_or c None)) ≡ a
one_of a b c p q = rw (p, q) (or_none a)

two_of : {A : Type 0} (a b c : Option A) → a ≡ None → c ≡ None → option_or a (option_or b (option_or c None)) ≡ b
two_of a b c p q = rw (p, q) (or_none b)

three_of : {A : Type 0} (a b c : Option A) → a ≡ None → b ≡ None → option_or a (option_or b (option_or c None)) ≡ c
three_of a b c p q = rw (p, q) (or_none c)

not_standard : (d : Data) → has_only (codes "parents" ∷ codes "attrs" ∷ codes "tags" ∷ []) d ≡ false → standard_read d ≡ None
not_standard d h = rw h refl

pub as_standard : (d : Data) → has_only (codes "parents" ∷ codes "attrs" ∷ codes "tags" ∷ []) d ≡ true → kind_read d ≡ standard_read d
as_standard d h =
    one_of (standard_read d) (enumerated_read d) (alone (codes "external") externals d)
    (ap (option_map (λ ids. ([], enumerated_expr ids))) (not_alone (codes "enum") (codes "parents" ∷ codes "attrs" ∷ codes "tags" ∷ []) (λ x y. refl, (λ x y. refl, (λ x y. refl, tt))) ids_read d h))
    (not_alone (codes "external") (codes "parents" ∷ codes "attrs" ∷ codes "tags" ∷ []) (λ x y. refl, (λ x y. refl, (λ x y. refl, tt))) externals d h)

pub as_enumerated : (d : Data) → has_only (codes "parents" ∷ codes "attrs" ∷ codes "tags" ∷ []) d ≡ false → has_only (codes "enum" ∷ []) d ≡ true
    → kind_read d ≡ option_map (λ ids. ([], enumerated_expr ids)) (given (get (codes "enum") d) ids_read)
as_enumerated d s h =
    two_of (standard_read d) (enumerated_read d) (alone (codes "external") externals d) (not_standard d s)
    (not_alone (codes "external") (codes "enum" ∷ []) (λ x y. refl, tt) externals d h)
    ∙ ap (option_map (λ ids. ([], enumerated_expr ids))) (is_alone (codes "enum") ids_read d h)

pub as_external : (d : Data) → has_only (codes "parents" ∷ codes "attrs" ∷ codes "tags" ∷ []) d ≡ false → has_only (codes "enum" ∷ []) d ≡ false
    → kind_read d ≡ alone (codes "external") (read_as (λ parents. (parents, external_expr)) (list_of any_name_read)) d
as_external d s h =
    three_of (standard_read d) (enumerated_read d) (alone (codes "external") externals d) (not_standard d s)
    (ap (option_map (λ ids. ([], enumerated_expr ids))) (is_not (codes "enum") ids_read d h))

pub fused : {A B C : Type 0} (f : B → C) (g : A → B) (o : Option A) → option_map f (option_map g o) ≡ option_map (λ a. f (g a)) o
fused f g None = refl
fused f g (Some a) = refl
