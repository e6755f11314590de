use Rattle.std.proofs.Common.{◌≡◌, ◌+◌, ◌*◌, ◌≤◌, ◌++◌, map}
use Rattle.std.specs.Slice.Iter.{iter_rest}
use Rattle.cedar_expr_model.specs.Made.{written}
use Rattle.cedar_expr_values.specs.Kept.{made_size, mades_size}
use Rattle.cedar_expr_values.specs.Values.{made, made_kind, mades}
use Rattle.cedar_expr_trees.specs.Trees.{tree_of, named, field_trees}
use Rattle.cedar_expr_partial.specs.Parts.{written_pair}
use Rattle.cedar_expr_partial.proofs.Smaller.{size_of, fields_size_of}
use Rattle.cedar_expr_partial.proofs.writing.+written.Given as goal

abbrev pub decreases-value_expr : goal.decreases-value_expr
decreases-value_expr g l = 3 * made_size (made g.X.ExtensionValue.seen l.value.now) + 2

abbrev pub decreases-kind_expr : goal.decreases-kind_expr
decreases-kind_expr g l = 3 * made_size (made_kind g.X.ExtensionValue.seen l.kind.now) + 1

abbrev pub decreases-member_exprs : goal.decreases-member_exprs
decreases-member_exprs g l = 3 * mades_size (mades g.X.ExtensionValue.seen l.members.now) + 3

abbrev pub decreases-field_exprs : goal.decreases-field_exprs
decreases-field_exprs g l = 3 * fields_size_of g.X.ExtensionValue.seen l.fields.now.entries + 3

abbrev pub invariant-member_exprs-loop-member : goal.invariant-member_exprs-loop-member
invariant-member_exprs-loop-member g l =
    record {
      made : map tree_of l.exprs.items ++ map (λ v. written (made g.X.ExtensionValue.seen v)) (iter_rest l.member-iterator) ≡ map (λ v. written (made g.X.ExtensionValue.seen v)) (iter_rest l.initial.member-iterator);
      within : size_of g.X.ExtensionValue.seen (iter_rest l.member-iterator) ≤ size_of g.X.ExtensionValue.seen (iter_rest l.initial.member-iterator);
    }

abbrev pub invariant-field_exprs-loop-name : goal.invariant-field_exprs-loop-name
invariant-field_exprs-loop-name g l =
    record {
      made : named (field_trees l.exprs.items) ++ map (written_pair g.X.ExtensionValue.seen) l.name-iterator ≡ map (written_pair g.X.ExtensionValue.seen) l.fields.entries;
      within : fields_size_of g.X.ExtensionValue.seen l.name-iterator ≤ fields_size_of g.X.ExtensionValue.seen l.fields.entries;
    }
