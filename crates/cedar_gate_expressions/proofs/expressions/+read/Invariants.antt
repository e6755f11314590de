use Rattle.std.proofs.Common.{◌≡◌, ◌≤◌, List, ◌++◌, drop, length, map}
use denote.Param.Weighed.{most}
use Rattle.std.specs.Rc.{rc_str_bytes}
use Rattle.serde_json.specs.View.{members_view}
use Rattle.serde_json.proofs.Views.{Entry}
use Rattle.serde_json.specs.declared.value.Value.{size-Value}
use Rattle.cedar_expr_model.specs.Lists.{all_given}
use Rattle.cedar_expr_trees.specs.Trees.{tree_of, named, field_trees}
use Rattle.cedar_gate_model.specs.ReadingExpression.{fields_in}
use Rattle.cedar_gate_expressions.specs.Forms.{version_of}
use Rattle.cedar_gate_expressions.specs.Parts.{parts}
use Rattle.cedar_gate_expressions.proofs.Gathered.{then_rest}
use Rattle.cedar_gate_expressions.proofs.Sorted.{SameNames}
use Rattle.cedar_gate_expressions.proofs.Fields.{then_fields}
use Rattle.cedar_gate_expressions.proofs.expressions.+read.Given as goal

abbrev pub invariant-read_each_expression-loop-i : goal.invariant-read_each_expression-loop-i
invariant-read_each_expression-loop-i l =
    then_rest (map tree_of l.list.items) (all_given (λ x. x.tree) (parts (version_of l.version) (drop l.i l.items))) ≡ all_given (λ x. x.tree) (parts (version_of l.version) (drop l.from l.items))

abbrev pub invariant-read_fields-loop-key : goal.invariant-read_fields-loop-key
invariant-read_fields-loop-key l =
    (done : List Entry) × (l.members.entries ≡ done ++ l.left.left) × SameNames rc_str_bytes l.fields.entries done
    × (then_fields (named (field_trees l.fields.entries)) (fields_in (version_of l.version) (members_view l.left.left)) ≡ fields_in (version_of l.version) (members_view l.members.entries))
    × (most (λ (e : Entry). size-Value e.1) l.left.left ≤ most (λ (e : Entry). size-Value e.1) l.members.entries)

abbrev pub decreases-read_fields-loop-key : goal.decreases-read_fields-loop-key
decreases-read_fields-loop-key l = length l.left.left
