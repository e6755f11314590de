use Rattle.std.proofs.Common.{◌≡◌, Ok, sym, ap, ◌∙◌}
use Rattle.std.specs.Rc.{rc_str_bytes}
use Rattle.cedar_expr_names.specs.Views.{name_of}
use Rattle.cedar_expr_names.specs.declared.internal_name.InternalName.{InternalName}
use Rattle.cedar_schema_decl.specs.Requalified.{and_then, under_name, each}
use Rattle.cedar_schema_decl.specs.Trees.{in_a_row, record_rows, attribute_form, attribute_rows}
use Rattle.cedar_schema_decl.specs.declared.json_schema.RecordType.{out-RecordType}
use Rattle.cedar_schema_decl.proofs.Gathered.{handed, gathers_none, gathers_one, gathers_all, gathers_not}
use Rattle.cedar_schema_types.specs.Types.{attribute_of}
use Rattle.cedar_schema_types.specs.AttributeLists.{declared_pairs}
use Rattle.cedar_schema_resolver.specs.Meanings.{setting_of}
use Rattle.cedar_schema_resolver.specs.Outcomes.{Refuses, fields_outcome, attribute_outcome}
use Rattle.cedar_schema_resolver.proofs.Rows.{rows_made, rows_refused, opened, one_more}
use Rattle.cedar_schema_resolver.proofs.resolver.+resolver.Goals as goal

pub convert_record-returns-in_err-attrs-clause-refused : goal.convert_record-returns-in_err-attrs-clause-refused
convert_record-returns-in_err-attrs-clause-refused t c =
    let s = setting_of c.args.resolver.now in
    let rows = record_rows name_of c.args.fields.now in
    handed (Refuses (fields_outcome s (in_a_row rows))) c.in_err-attrs.field-0.0 c.from_residual.result c.from_residual.ensures.1 (λ q u. rows_refused s rows q (c.in_err-attrs.ensures.refused q u))

pub convert_record-returns-clause-made : goal.convert_record-returns-clause-made
convert_record-returns-clause-made t c =
    let s = setting_of c.args.resolver.now in
    let rows = record_rows name_of c.args.fields.now in
    rows_made s rows (declared_pairs c.in_ok-attrs.attrs.items) c.in_ok-attrs.ensures.made ∙ ap Ok (sym c.in_ok-attrs-2.ensures)

pub convert_attributes-loop-name-init : goal.convert_attributes-loop-name-init
convert_attributes-loop-name-init t c =
    let f = under_name (attribute_outcome (setting_of c.args.resolver.now)) in
    let is : c.into_iter-name-iterator.result ≡ (out-RecordType InternalName c.args.fields.now).attributes.entries = c.into_iter-name-iterator.ensures.into_iter_gives ∙ c.iter-name-items.ensures.rest in (
      tt,
      tt,
      gathers_none f (record_rows name_of c.args.fields.now) (attribute_rows name_of c.into_iter-name-iterator.result) (declared_pairs c.in_ok-made.made.items)
          (opened name_of c.args.fields.now ∙ ap (attribute_rows name_of) (sym is))
          (ap declared_pairs c.in_ok-made.ensures.items),
    )

pub convert_attributes-loop-name-preserved : goal.convert_attributes-loop-name-preserved
convert_attributes-loop-name-preserved t c =
    let f = under_name (attribute_outcome (setting_of c.args.resolver.now)) in
    let name = rc_str_bytes c.in-Some.name.now in
    let made = attribute_of c.in_ok-convert_attribute.field-0 in (
      tt,
      tt,
      gathers_one f (record_rows name_of c.args.fields.now) (attribute_rows name_of c.loop-name.name-iterator) (attribute_rows name_of c.next.new.self)
          (declared_pairs c.loop-name.made.items) (declared_pairs c.in_ok-made-2.made.items)
          (name, attribute_form name_of c.in-Some.attribute.now) (name, made)
          c.loop-name.invariant.2
          (ap (attribute_rows name_of) c.in-Some.ensures.steps)
          (ap (and_then (λ y. Ok (name, y))) c.in_ok-convert_attribute.ensures.made)
          (one_more c.loop-name.made.items c.in_ok-made-2.made.items name c.in_ok-convert_attribute.field-0 c.in_ok-made-2.ensures),
    )

pub convert_attributes-returns-clause-made : goal.convert_attributes-returns-clause-made
convert_attributes-returns-clause-made t c =
    let f = under_name (attribute_outcome (setting_of c.args.resolver.now)) in
    gathers_all f (record_rows name_of c.args.fields.now) (attribute_rows name_of c.loop-name.name-iterator) (declared_pairs c.loop-name.made.items) c.loop-name.invariant.2 (ap (attribute_rows name_of) c.in-None.ensures.steps.0)

pub convert_attributes-returns-in_err-convert_attribute-clause-refused : goal.convert_attributes-returns-in_err-convert_attribute-clause-refused
convert_attributes-returns-in_err-convert_attribute-clause-refused t c =
    let f = under_name (attribute_outcome (setting_of c.args.resolver.now)) in
    let rows = record_rows name_of c.args.fields.now in
    let name = rc_str_bytes c.in-Some.name.now in
    handed (Refuses (each f rows)) c.in_err-convert_attribute.field-0.0 c.from_residual-in_err-convert_attribute.result c.from_residual-in_err-convert_attribute.ensures.1
    (λ q u. gathers_not f rows (attribute_rows name_of c.loop-name.name-iterator) (attribute_rows name_of c.next.new.self) (declared_pairs c.loop-name.made.items) (name, attribute_form name_of c.in-Some.attribute.now) q c.loop-name.invariant.2
    (ap (attribute_rows name_of) c.in-Some.ensures.steps)
    (ap (and_then (λ y. Ok (name, y))) (c.in_err-convert_attribute.ensures.refused q u)))
