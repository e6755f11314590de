use Rattle.std.proofs.Common.{◌≡◌, Some, option_map, rules, sym, ap, ◌∙◌}
use Rattle.cedar_expr_values.specs.Extensions.{extension_of}
use Rattle.cedar_expr_values.specs.Values.{made, made_kind}
use Rattle.cedar_evaluator_model.specs.Scope.{closed}
use Rattle.cedar_gate_openings.specs.Requests.{bound_context}
use Rattle.cedar_gate_openings.proofs.requests.record_bound.Goals as goal

pub returns-in_ok-clone-in-Record : goal.returns-in_ok-clone-in-Record
returns-in_ok-clone-in-Record c =
    let there : option_map (λ v. made extension_of v.now) c.args.value ≡ Some (made extension_of c.in-Some.value.now) = search rules in
    ap closed (c.in_ok-clone-in-Record.ensures.cases extension_of)
    ∙ ap (λ m. bound_context (Some m)) (sym (sym c.value_kind.ensures.value ∙ ap (made_kind extension_of) c.in-Record.is))
    ∙ ap bound_context (sym there)
