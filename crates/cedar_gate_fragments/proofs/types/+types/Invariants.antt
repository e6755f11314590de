use Rattle.std.proofs.Common.{◌≡◌, ◌≤◌, List, ◌++◌, length}
use denote.Param.Weighed.{most}
use Rattle.std.specs.Rc.{rc_str_bytes}
use Rattle.serde_json.specs.View.{members_view}
use Rattle.serde_json.proofs.Views.{Entry}
use Rattle.serde_json.specs.declared.value.Value.{size-Value}
use Rattle.cedar_expr_leaves.specs.Views.{raw_name_of}
use Rattle.cedar_schema_decl.specs.Trees.{attribute_rows}
use Rattle.cedar_gate_model.specs.ReadingSchema.{attributes_in}
use Rattle.cedar_gate_expressions.proofs.Sorted.{SameNames}
use Rattle.cedar_gate_fragments.proofs.Attributes.{then_rows}
use Rattle.cedar_gate_fragments.proofs.types.+types.Given as goal

abbrev pub invariant-read_each_attribute-loop-key : goal.invariant-read_each_attribute-loop-key
invariant-read_each_attribute-loop-key l =
    (done : List Entry) × (l.members.entries ≡ done ++ l.left.left) × SameNames rc_str_bytes l.attributes.entries done
    × (then_rows (attribute_rows raw_name_of l.attributes.entries) (attributes_in (members_view l.left.left)) ≡ attributes_in (members_view l.members.entries))
    × (most (λ (e : Entry). size-Value e.1) l.left.left ≤ most (λ (e : Entry). size-Value e.1) l.members.entries)

abbrev pub decreases-read_each_attribute-loop-key : goal.decreases-read_each_attribute-loop-key
decreases-read_each_attribute-loop-key l = length l.left.left
