use Rattle.std.proofs.Common.{◌≡◌, [], ◌∷◌, ◌++◌, Ok, Err, rules, sym, ap, ◌∙◌}
use Rattle.std.specs.Rc.{rc_str_bytes}
use Rattle.cedar_schema_decl.specs.Refusals.{RefusesBy}
use Rattle.cedar_schema_decl.specs.Requalified.{and_then, requalified_fields, requalified_attribute, under_name, each}
use Rattle.cedar_schema_decl.specs.Trees.{in_a_row, record_rows, attribute_form, attribute_rows}
use Rattle.cedar_schema_decl.specs.declared.json_schema.RecordType.{out-RecordType}
use Rattle.cedar_schema_decl.proofs.Fields.{rows_made, rows_refused, rows_stay, rows_rise, more_rows, opened, rolled}
use Rattle.cedar_schema_decl.proofs.Gathered.{handed, gathers_none, gathers_one, gathers_all, gathers_not}
use Rattle.cedar_schema_decl.proofs.requalify.+requalify.Goals as goal

pub requalify_record-returns-in_err-attributes-clause-refused : goal.requalify_record-returns-in_err-attributes-clause-refused
requalify_record-returns-in_err-attributes-clause-refused g t c =
    let f = g.R.Requalify.renames c.args.names.now in
    let rows = record_rows g.R.Requalify.before c.args.fields.now in
    handed (RefusesBy g.R.Requalify.tells (requalified_fields f (in_a_row rows))) c.in_err-attributes.field-0.0 c.from_residual.result c.from_residual.ensures.1
    (λ q u. rows_refused f rows q (c.in_err-attributes.ensures.refused q u))

pub requalify_record-returns-clause-made : goal.requalify_record-returns-clause-made
requalify_record-returns-clause-made g t c =
    let f = g.R.Requalify.renames c.args.names.now in
    let rows = record_rows g.R.Requalify.before c.args.fields.now in
    rows_made f rows (attribute_rows g.R.Requalify.after c.in_ok-attributes.attributes.items) c.in_ok-attributes.ensures.made
    ∙ ap (λ made. Ok (in_a_row made)) (sym (rolled g.R.Requalify.after (record { attributes = c.in_ok-attributes-2.attributes }) ∙ rows_stay g.R.Requalify.after c.in_ok-attributes-2.attributes.entries c.in_ok-attributes.attributes.items c.in_ok-attributes-2.ensures c.in_ok-attributes.ensures.rising))

pub requalify_attributes-loop-name-init : goal.requalify_attributes-loop-name-init
requalify_attributes-loop-name-init g t c =
    let f = under_name (requalified_attribute (g.R.Requalify.renames c.args.names.now)) in
    let all : (out-RecordType g.row.R-From.Denot c.args.fields.now).attributes.entries ≡ c.into_iter-name-iterator.result = search rules in
    gathers_none f (record_rows g.R.Requalify.before c.args.fields.now) (attribute_rows g.R.Requalify.before c.into_iter-name-iterator.result) (attribute_rows g.R.Requalify.after c.in_ok-made.made.items)
    (opened g.R.Requalify.before c.args.fields.now ∙ ap (attribute_rows g.R.Requalify.before) all)
    (ap (attribute_rows g.R.Requalify.after) c.in_ok-made.ensures.items)

pub requalify_attributes-loop-name-preserved : goal.requalify_attributes-loop-name-preserved
requalify_attributes-loop-name-preserved g t c =
    let f = under_name (requalified_attribute (g.R.Requalify.renames c.args.names.now)) in
    let made = attribute_rows g.R.Requalify.after c.loop-name.made.items in
    let name = rc_str_bytes c.in-Some.name.now in
    let attribute = attribute_form g.R.Requalify.after c.in_ok-attribute.attribute in
    let named : rc_str_bytes c.in_ok-clone.field-0 ≡ name = search rules in
    gathers_one f (record_rows g.R.Requalify.before c.args.fields.now) (attribute_rows g.R.Requalify.before c.loop-name.name-iterator) (attribute_rows g.R.Requalify.before c.next.new.self)
    made (attribute_rows g.R.Requalify.after c.append.new.items.items)
    (name, attribute_form g.R.Requalify.before c.in-Some.attribute.now) (name, attribute)
    c.loop-name.invariant
    (ap (attribute_rows g.R.Requalify.before) c.in-Some.ensures.steps)
    (ap (and_then (λ y. Ok (name, y))) c.in_ok-attribute.ensures.made)
    (ap (attribute_rows g.R.Requalify.after) c.in_ok-append.ensures.appended ∙ more_rows g.R.Requalify.after c.loop-name.made.items c.in_ok-clone.field-0 c.in_ok-attribute.attribute ∙ ap (λ n. made ++ (n, attribute) ∷ []) named)

pub requalify_attributes-returns-clause-rising : goal.requalify_attributes-returns-clause-rising
requalify_attributes-returns-clause-rising g t c =
    let f = requalified_attribute (g.R.Requalify.renames c.args.names.now) in
    let rows = record_rows g.R.Requalify.before c.args.fields.now in
    let none : c.loop-name.name-iterator ≡ [] = search rules in
    rows_rise f g.R.Requalify.before g.R.Requalify.after rows (out-RecordType g.row.R-From.Denot c.args.fields.now).attributes.entries c.loop-name.made.items (opened g.R.Requalify.before c.args.fields.now)
    (gathers_all (under_name f) rows (attribute_rows g.R.Requalify.before c.loop-name.name-iterator) (attribute_rows g.R.Requalify.after c.loop-name.made.items) c.loop-name.invariant (ap (attribute_rows g.R.Requalify.before) none))
    c.len.ensures.ordered

pub requalify_attributes-returns-in_err-attribute-clause-refused : goal.requalify_attributes-returns-in_err-attribute-clause-refused
requalify_attributes-returns-in_err-attribute-clause-refused g t c =
    let f = under_name (requalified_attribute (g.R.Requalify.renames c.args.names.now)) in
    let rows = record_rows g.R.Requalify.before c.args.fields.now in
    let name = rc_str_bytes c.in-Some.name.now in
    handed (RefusesBy g.R.Requalify.tells (each f rows)) c.in_err-attribute.field-0.0 c.from_residual-in_err-attribute.result c.from_residual-in_err-attribute.ensures.1
    (λ q u. gathers_not f rows (attribute_rows g.R.Requalify.before c.loop-name.name-iterator) (attribute_rows g.R.Requalify.before c.next.new.self) (attribute_rows g.R.Requalify.after c.loop-name.made.items) (name, attribute_form g.R.Requalify.before c.in-Some.attribute.now) q c.loop-name.invariant
    (ap (attribute_rows g.R.Requalify.before) c.in-Some.ensures.steps)
    (ap (and_then (λ y. Ok (name, y))) (c.in_err-attribute.ensures.refused q u)))
