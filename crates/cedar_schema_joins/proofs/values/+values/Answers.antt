use Rattle.std.proofs.Common.{sym, ap, ◌∙◌}
use Rattle.cedar_expr_model.specs.Made as model
use Rattle.cedar_expr_model.specs.Value.{record_of}
use Rattle.cedar_expr_values.specs.Values.{bare_kind}
use Rattle.cedar_schema_model.specs.HasType.{has_type}
use Rattle.cedar_schema_types.specs.Types.{type_of}
use Rattle.cedar_schema_joins.proofs.Fitting.{bare_fields_are}
use Rattle.cedar_schema_joins.proofs.values.+values.Goals as goal

pub has_type-returns-in-Record : goal.has_type-returns-in-Record
has_type-returns-in-Record g t c =
    let seen = g.X.ExtensionValue.seen in
    let ty = type_of c.args.ty.now in
    c.is_record_of.ensures
    ∙ ap (λ fs. has_type (record_of fs) ty) (sym (bare_fields_are seen c.as_map.result.now.entries) ∙ sym (ap model.bare_fields c.as_map.ensures.as_made))
    ∙ ap (λ v. has_type v ty) (ap (bare_kind seen) (sym c.in-Record.is) ∙ ap model.bare c.value_kind.ensures.value)
