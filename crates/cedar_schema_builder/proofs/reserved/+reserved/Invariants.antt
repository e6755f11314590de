use Rattle.std.proofs.Common.{◌≡◌, find}
use Rattle.cedar_expr_model.specs.Name.{is_reserved}
use Rattle.cedar_schema_decl.specs.Conditional.{conditional_of}
use Rattle.cedar_schema_decl.specs.Trees.{record_fields, attribute_rows}
use Rattle.cedar_schema_builder.specs.WrittenNames.{names_in_fields}
use Rattle.cedar_schema_builder.proofs.Rows.{row_names}
use Rattle.cedar_schema_builder.proofs.reserved.+reserved.Given as goal

abbrev pub invariant-reserved_in_record-loop-attribute : goal.invariant-reserved_in_record-loop-attribute
invariant-reserved_in_record-loop-attribute l =
    (goal.iterator-reserved_in_record-loop-attribute).can_next l.attribute-iterator ×
    (goal.iterator-reserved_in_record-loop-attribute).is_finite l.attribute-iterator ×
    (find is_reserved (names_in_fields (record_fields conditional_of l.fields)) ≡ find is_reserved (row_names (attribute_rows conditional_of l.attribute-iterator)))
