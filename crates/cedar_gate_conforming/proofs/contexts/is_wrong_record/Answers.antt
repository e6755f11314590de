use Rattle.std.proofs.Common.{not, ap, ◌∙◌}
use Rattle.cedar_expr_model.specs.Made as model
use Rattle.cedar_expr_model.specs.Made.{Made, bare_fields}
use Rattle.cedar_expr_model.specs.Value.{record_of}
use Rattle.cedar_expr_values.specs.Extensions.{extension_of}
use Rattle.cedar_schema_model.specs.HasType.{has_type}
use Rattle.cedar_schema_types.specs.Types.{type_of}
use Rattle.cedar_gate_conforming.proofs.contexts.is_wrong_record.Goals as goal

pub returns : goal.returns
returns c =
    let ty = type_of c.args.ty.now in
    ap not (c.typecheck_value.ensures ∙ ap (λ (m : Made). has_type (model.bare m) ty) c.record_arc-record.ensures.value
    ∙ ap (λ fs. has_type (record_of (bare_fields fs)) ty) (c.in_ok-clone.ensures.cases extension_of))
