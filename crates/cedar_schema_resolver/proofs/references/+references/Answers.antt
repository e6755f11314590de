use Rattle.std.proofs.Common.{◌≡◌, ◌++◌, map, sym, ap, ◌∙◌}
use Rattle.cedar_expr_names.specs.Views.{name_of}
use Rattle.cedar_expr_names.specs.declared.internal_name.InternalName.{InternalName}
use Rattle.cedar_schema_decl.specs.Defined.{defined_of}
use Rattle.cedar_schema_decl.specs.Trees.{attribute_rows}
use Rattle.cedar_schema_decl.specs.declared.json_schema.RecordType.{out-RecordType}
use Rattle.cedar_schema_resolver.proofs.Rows.{opened}
use Rattle.cedar_schema_resolver.proofs.Using.{rows_use, rows_go_on, rows_end}
use Rattle.cedar_schema_resolver.proofs.references.+references.Goals as goal

pub add_record-loop-attribute-init : goal.add_record-loop-attribute-init
add_record-loop-attribute-init t c =
    let is : c.into_iter-attribute-iterator.result ≡ (out-RecordType InternalName c.args.fields.now).attributes.entries = c.into_iter-attribute-iterator.ensures.into_iter_gives ∙ c.iter-attribute-items.ensures.rest in (
      tt,
      tt,
      ap (λ rows. map name_of c.args.used.items ++ rows_use (defined_of c.args.all_defs.now) rows) (ap (attribute_rows name_of) is ∙ sym (opened name_of c.args.fields.now)),
    )

pub add_record-loop-attribute-preserved : goal.add_record-loop-attribute-preserved
add_record-loop-attribute-preserved t c = (
  tt,
  tt,
  rows_go_on (defined_of c.args.all_defs.now) (attribute_rows name_of c.loop-attribute.attribute-iterator) (attribute_rows name_of c.next.new.self) _
      (map name_of c.loop-attribute.found.items) _ _
      c.loop-attribute.invariant.2
      (ap (attribute_rows name_of) c.in-Some.ensures.steps)
      c.in_ok-found.ensures,
)

pub add_record-returns : goal.add_record-returns
add_record-returns t c =
    rows_end (defined_of c.args.all_defs.now) (attribute_rows name_of c.loop-attribute.attribute-iterator) (map name_of c.loop-attribute.found.items) _ c.loop-attribute.invariant.2 (ap (attribute_rows name_of) c.in-None.ensures.steps.0)
