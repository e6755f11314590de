-- What the code's bindings are in the model, and what a refusal to substitute says.
-- Rule: substitution (docs/RULES.md).
use Rattle.std.specs.Prelude.{◌≡◌, Option, Some, option_map}
use Rattle.std.specs.Option.{option_map_or}
use Rattle.std.specs.HashMap.{HashMap, get_by}
use Rattle.std.specs.Rc.{rc_str_bytes}
use Rattle.std.specs.Str.{bytes_eq}
use Rattle.std.specs.declared.alloc.Global.{Global}
use Rattle.std.specs.declared.rc.RcStr.{RcStr}
use Rattle.cedar_expr_model.specs.Name.{Text}
use Rattle.cedar_expr_model.specs.Tree.{CoreType, Tree, unknown}
use Rattle.cedar_expr_model.specs.Builder.{Builder, built, tree_builder}
use Rattle.cedar_expr_model.specs.Made.{written}
use Rattle.cedar_expr_model.specs.Substitution.{Bindings, Mismatch}
use Rattle.cedar_expr_values.specs.Extension.{Extension}
use Rattle.cedar_expr_values.specs.Values.{made}
use Rattle.cedar_expr_values.specs.Types.{core_of}
use Rattle.cedar_expr_values.specs.declared.value.Value.{Value}
use Rattle.cedar_expr_substitution.specs.declared.bound.Bound.{Bound}
use Rattle.cedar_expr_substitution.specs.declared.err.SubstitutionError.{SubstitutionError}
use Rattle.cedar_expr_substitution.specs.declared.err.SubstitutionError.TheVariants.{OutOfMemory, TypeError}

-- the bindings of a map: of each name the value that stands under it, as it was made
abbrev pub bindings_of : {X S : Type 0} → (X → Extension) → HashMap (RcStr Global) (Value X) S → Bindings
bindings_of seen m = λ n. option_map (made seen) (get_by (λ k. bytes_eq n (rc_str_bytes k)) m)

-- the bindings of bound unknowns: of each name the value that it is bound to, as it was made
abbrev pub bound_by : {X : Type 0} → (X → Extension) → Bound X → Bindings
bound_by seen b = bindings_of seen b.bindings.now

-- what bindings put in the place of an unknown
abbrev pub placed_by : Bindings → Text → Option CoreType → Tree
placed_by env n a = option_map_or written (env n) (unknown n a)

-- the builder of trees that makes of an unknown what bindings put in its place
abbrev pub substituting : Bindings → Builder Tree
substituting env = record tree_builder { of_unknown = λ n a. option_map_or (λ m. built tree_builder (written m)) (env n) (unknown n a) }

-- The fault is the leftmost mismatch. Out of memory says nothing.
abbrev pub IsMismatch : Option Mismatch → SubstitutionError → Type 0
IsMismatch m OutOfMemory = Unit {0}
IsMismatch m (TypeError name expected actual) = m ≡ Some (record { name = rc_str_bytes name; annotation = core_of expected; actual = core_of actual })
