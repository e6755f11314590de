-- What a call asks of a function's signature.
-- Rule: typing (docs/RULES.md).
use Rattle.std.specs.Prelude.{◌&&◌, ◌||◌, ◌==◌, ℕ, List, length, nat_le, Bool, true, not, Option, None, option_and_then, if◌then◌else◌, map}
use Rattle.std.specs.Borrow.{Bor}
use Rattle.cedar_expr_model.specs.Builder.{trees}
use Rattle.cedar_expr_model.specs.Tree.{Trees}
use Rattle.cedar_expr_model.specs.Lists.{all_given}
use Rattle.cedar_expr_names.specs.Views.{plain_name_of}
use Rattle.cedar_expr_names.specs.declared.name.Name.{Name}
use Rattle.cedar_expr_trees.specs.Trees.{tree_of}
use Rattle.cedar_expr_trees.specs.declared.expr.Expr.{Expr}
use Rattle.cedar_schema_model.specs.Types.{Ty, Mode, strict, permissive}
use Rattle.cedar_schema_types.specs.Types.{type_of}
use Rattle.cedar_schema_types.specs.declared.types.Type.{«Type» as CodeType}
use Rattle.cedar_typechecker_model.specs.Rules.{core_as_type, arguments_fit, is_text_literal, Setting, call_type}
use Rattle.cedar_typechecker_environments.specs.Signatures.{CallSignature}

-- the function takes this many arguments
abbrev pub counts : CallSignature → ℕ → Bool
counts f n = if f.is_variadic then nat_le (length f.parameters) n else (n == length f.parameters)

-- in strict mode a constructor takes a literal
abbrev pub literal_taken : Mode → Bool → Trees → Bool
literal_taken strict c es = not c || is_text_literal es
literal_taken permissive c es = true

-- the type of a call
abbrev pub called_type : Mode → Trees → List Ty → CallSignature → Option Ty
called_type m es ts f = option_and_then (λ ps. if counts f (length ts) && (arguments_fit ps ts && literal_taken m f.is_constructor es) then option_and_then core_as_type f.result else None) (all_given core_as_type f.parameters)

-- the types of arguments
abbrev pub types_seen : List (Bor CodeType) → List Ty
types_seen ts = map (λ t. type_of t.now) ts

-- the type of a call of the function of this name on these arguments, which are of these types
abbrev pub type_of_call : {T : Type 0} → Setting → Name → List (Expr T) → List (Bor CodeType) → Option Ty
type_of_call s f es ts = call_type s (plain_name_of f) (trees (map tree_of es)) (types_seen ts)
