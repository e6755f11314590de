-- What the laws of restricted expressions and types say.
-- Rule: values of a type; restricted expressions (docs/RULES.md).
use Rattle.std.specs.Prelude.{◌≡◌, ◌↔◌, List, None}
use Rattle.cedar_expr_model.specs.Name.{Name}
use Rattle.cedar_expr_model.specs.Made.{Made, bare, written}
use Rattle.cedar_expr_model.specs.OfLaws.Fair.{IsFair}
use Rattle.cedar_expr_model.specs.OfLaws.Represented.{IsRepresented}
use Rattle.cedar_expr_model.specs.Table.{Signature, Table}
use Rattle.cedar_expr_model.specs.Tree.{Tree}
use Rattle.cedar_schema_model.specs.Types.{Ty}
use Rattle.cedar_schema_model.specs.HasType.{has_type}
use Rattle.cedar_schema_model.specs.Restricted.{signature_among, RestrictedHasType, of_type, no_function, asked_truth, asked_for}

-- the test answers `of_type` exactly where the expression is of the type
abbrev pub AskedDecides : Type 0
AskedDecides = (ss : List Signature) (e : Tree) (t : Ty) → (asked_for ss e t ≡ of_type) ↔ RestrictedHasType ss e t

-- a function that the test says isn't there isn't there
abbrev pub NamedIsNotThere : Type 0
NamedIsNotThere = (ss : List Signature) (e : Tree) (t : Ty) (f : Name) → asked_for ss e t ≡ no_function f → signature_among ss f ≡ None

-- In a fair table the expression that a value is written as is of the types of the value, and no function lacks.
abbrev pub WrittenValuesAreAsked : Type 0
WrittenValuesAreAsked = (x : Table) (m : Made) (t : Ty) → IsFair x → IsRepresented x m → asked_for x.functions (written m) t ≡ asked_truth (has_type (bare m) t)
