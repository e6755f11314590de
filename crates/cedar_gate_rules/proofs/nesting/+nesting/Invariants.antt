use Rattle.std.proofs.Common.{◌≡◌, ◌*◌, ◌+◌, true, take, length}
use Rattle.std.specs.Prelude.{nat_le}
use Rattle.std.specs.BTreeMap.{values}
use Rattle.std.specs.List.{list_all}
use Rattle.cedar_expr_model.specs.Tree.{nesting}
use Rattle.cedar_expr_trees.specs.Trees.{tree_of}
use Rattle.cedar_gate_rules.proofs.nesting.+nesting.Given as goal

abbrev pub decreases-nests_within : goal.decreases-nests_within
decreases-nests_within g l = 2 * l.limit

abbrev pub decreases-all_nest_within : goal.decreases-all_nest_within
decreases-all_nest_within g l = 2 * l.limit + 1

abbrev pub decreases-fields_nest_within : goal.decreases-fields_nest_within
decreases-fields_nest_within g l = 2 * l.limit + 1

abbrev pub invariant-all_nest_within-loop-e : goal.invariant-all_nest_within-loop-e
invariant-all_nest_within-loop-e g l = list_all (λ e. nat_le (nesting (tree_of e)) l.limit) (take l.e-index l.exprs) ≡ true

abbrev pub invariant-fields_nest_within-loop-e : goal.invariant-fields_nest_within-loop-e
invariant-fields_nest_within-loop-e g l = list_all (λ e. nat_le (nesting (tree_of e)) l.limit) (values l.fields) ≡ list_all (λ e. nat_le (nesting (tree_of e)) l.limit) l.left.left

abbrev pub decreases-fields_nest_within-loop-e : goal.decreases-fields_nest_within-loop-e
decreases-fields_nest_within-loop-e g l = length l.left.left
