use Rattle.std.proofs.Common.{◌≡◌, find, sym, ap, ◌∙◌}
use Rattle.cedar_expr_model.specs.Name.{is_reserved}
use Rattle.cedar_expr_leaves.specs.declared.conditional_name.ConditionalName.{ConditionalName}
use Rattle.cedar_schema_decl.specs.Conditional.{conditional_of}
use Rattle.cedar_schema_decl.specs.Trees.{attribute_rows}
use Rattle.cedar_schema_decl.specs.declared.json_schema.RecordType.{out-RecordType}
use Rattle.cedar_schema_builder.proofs.Rows.{opened, row_names, rows_found, rows_go_on}
use Rattle.cedar_schema_builder.proofs.reserved.+reserved.Goals as goal

pub reserved_in_record-loop-attribute-init : goal.reserved_in_record-loop-attribute-init
reserved_in_record-loop-attribute-init t c =
    let is : c.into_iter-attribute-iterator.result ≡ (out-RecordType ConditionalName c.args.fields.now).attributes.entries = c.into_iter-attribute-iterator.ensures.into_iter_gives ∙ c.iter-attribute-items.ensures.rest in (
      tt,
      tt,
      ap (λ rows. find is_reserved (row_names rows)) (opened conditional_of c.args.fields.now ∙ sym (ap (attribute_rows conditional_of) is)),
    )

pub reserved_in_record-returns-in-Some-reserved_in_attribute : goal.reserved_in_record-returns-in-Some-reserved_in_attribute
reserved_in_record-returns-in-Some-reserved_in_attribute t c =
    rows_found is_reserved (attribute_rows conditional_of c.loop-attribute.attribute-iterator) (attribute_rows conditional_of c.next.new.self) _ _ _
    c.loop-attribute.invariant.2
    (ap (attribute_rows conditional_of) c.in-Some.ensures.steps)
    c.in-Some-reserved_in_attribute.ensures

pub reserved_in_record-loop-attribute-preserved : goal.reserved_in_record-loop-attribute-preserved
reserved_in_record-loop-attribute-preserved t c = (
  tt,
  tt,
  rows_go_on is_reserved (attribute_rows conditional_of c.loop-attribute.attribute-iterator) (attribute_rows conditional_of c.next.new.self) _ _
      c.loop-attribute.invariant.2
      (ap (attribute_rows conditional_of) c.in-Some.ensures.steps)
      c.in_default.ensures,
)
