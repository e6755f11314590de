-- Values that are lent.
-- Rule: partial evaluation (docs/RULES.md).
use Rattle.std.specs.Prelude.{◌≡◌, ℕ, List, Option, IfSome}
use Rattle.std.specs.Rc.{rc_str_bytes}
use Rattle.cedar_expr_names.specs.Views.{uid_of}
use Rattle.cedar_expr_model.specs.Name.{Name}
use Rattle.cedar_expr_model.specs.Made.{Made, made_prim}
use Rattle.cedar_expr_model.specs.Table.{Table, Called}
use Rattle.cedar_expr_model.specs.Builder.{trees}
use Rattle.cedar_expr_model.specs.Tree.{Tree, contains, set_literal}
use Rattle.cedar_expr_model.specs.Value.{V, truth, long, text, entity}
use Rattle.cedar_expr_values.specs.Extensions.{extension_of}
use Rattle.cedar_expr_values.specs.Values.{made}
use Rattle.std.specs.Option.{option_map_or}
use Rattle.cedar_expr_model.specs.ValueParts.{Part}
use Rattle.cedar_store_model.specs.Outcome.{missing_attribute_or_tag}
use Rattle.cedar_evaluator_model.specs.Scope.{Scope, Left, value_left}
use Rattle.cedar_evaluator_model.specs.Steps.{errs, part_left}
use Rattle.cedar_evaluator_model.specs.Evaluation.{binary_left, evaluated}
use Rattle.cedar_evaluator_errors.specs.Calls.{Functions}
use Rattle.cedar_evaluator_operators.specs.Scopes.{scope_of}
use Rattle.cedar_evaluator_reads.specs.declared.knowledge.Knowledge.{Knowledge}
use Rattle.cedar_evaluator_core.specs.declared.lending.Lent.{Lent}
use Rattle.cedar_evaluator_core.specs.declared.lending.Lent.TheVariants as lent

-- the value that is lent
abbrev pub lent_made : Lent → Made
lent_made (lent.Truth b) = made_prim (truth b)
lent_made (lent.Long n) = made_prim (long n)
lent_made (lent.Text s) = made_prim (text (rc_str_bytes s.now))
lent_made (lent.Entity u) = made_prim (entity (uid_of u.now))
lent_made (lent.Value v) = made extension_of v.now

-- A value that is lent is what is left. Where none is, nothing is said.
abbrev pub Lends : Left → Option Lent → Type 0
Lends l o = IfSome o (λ v. l ≡ value_left (lent_made v))

-- what a look-up of an attribute leaves
abbrev pub part_found : Scope → Option (Part Made) → Left
part_found s o = option_map_or (part_left s) o (errs missing_attribute_or_tag)

-- It is what is left of the expression within the limit, however the table's functions answer.
pub record LendsWithin {T : Type 0} (table : T → (Name → List V → Called) → Table) (k : Knowledge T) (n : ℕ) (t : Tree) (o : Option Lent) : Type 0 where
  pub lends : (fs : Functions) → Lends (evaluated (scope_of table fs k) n t) o

-- what `contains` leaves of the set literal of these, within the limit, and of the value
abbrev pub contains_left : Scope → ℕ → List Tree → Made → Left
contains_left s n ts m = binary_left s contains (evaluated s n (set_literal (trees ts))) (value_left m)

-- It is what `contains` leaves of the set literal and the value, however the table's functions answer.
pub record ContainsWithin {T : Type 0} (table : T → (Name → List V → Called) → Table) (k : Knowledge T) (n : ℕ) (ts : List Tree) (m : Made) (o : Option Lent) : Type 0 where
  pub lends : (fs : Functions) → Lends (contains_left (scope_of table fs k) n ts m) o
