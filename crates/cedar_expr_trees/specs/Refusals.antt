-- What the refusal of an expression says.
-- Rule: repeated names (docs/RULES.md).
use Rattle.std.specs.Prelude.{◌≡◌, true, List, Some, map, codes}
use Rattle.std.specs.List.{list_any}
use Rattle.std.specs.Rc.{rc_str_bytes}
use Rattle.std.specs.Str.{bytes_eq}
use Rattle.cedar_expr_model.specs.Name.{Text}
use Rattle.cedar_expr_model.specs.Repeats.{repeated_name}
use Rattle.cedar_expr_trees.specs.declared.err.DuplicateKeyError.{DuplicateKeyError}
use Rattle.cedar_expr_trees.specs.declared.err.ExpressionConstructionError.{ExpressionConstructionError}
use Rattle.cedar_expr_trees.specs.declared.err.ExpressionConstructionError.TheVariants.{OutOfMemory, DuplicateKey}

-- the key that is repeated
abbrev pub repeated_key : DuplicateKeyError → Text
repeated_key e = rc_str_bytes e.key

-- where it does
abbrev pub repeated_context : DuplicateKeyError → Text
repeated_context e = e.context.now

-- The fault is there in a record literal of these pairs. Out of memory says nothing.
abbrev pub RefusesRecord : {A : Type 0} → List (Text × A) → ExpressionConstructionError → Type 0
RefusesRecord ps OutOfMemory = Unit {0}
RefusesRecord ps (DuplicateKey e) = (repeated_name ps ≡ Some (repeated_key e)) × (repeated_context e ≡ codes "in record literal")

-- The fault is there where a field of this name is put among fields of these names. Out of memory says nothing.
abbrev pub RefusesField : List Text → Text → ExpressionConstructionError → Type 0
RefusesField names a OutOfMemory = Unit {0}
RefusesField names a (DuplicateKey e) = (list_any (bytes_eq a) names ≡ true) × (repeated_key e ≡ a) × (repeated_context e ≡ codes "in record literal")

-- the names of pairs
abbrev pub names_of : {A : Type 0} → List (Text × A) → List Text
names_of ps = map (λ p. p.0) ps
