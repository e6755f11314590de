use Rattle.std.proofs.Common.{not, ap, ◌∙◌}
use Rattle.std.specs.List.{list_any}
use Rattle.cedar_expr_model.specs.Name.{name_eq}
use Rattle.cedar_evaluator_requests.specs.Views.{entry_of}
use Rattle.cedar_schema_entries.specs.Views.{action_seen}
use Rattle.cedar_schema_model.specs.Conforming.{is_not_listed}
use Rattle.cedar_gate_conforming.proofs.Placed.{known_is}
use Rattle.cedar_gate_conforming.proofs.requests.refuses_principal.Goals as goal

pub returns-in-Some : goal.returns-in-Some
returns-in-Some c =
    let ns = (action_seen c.args.action.now).applied.principals in
    ap not (c.is_applicable_principal_type.ensures ∙ ap (λ n. list_any (name_eq n) ns) c.entity_type.ensures) ∙ ap (is_not_listed ns) (c.in-Some.ensures ∙ known_is (entry_of c.args.principal.now))

pub returns-in-None : goal.returns-in-None
returns-in-None c =
    let ns = (action_seen c.args.action.now).applied.principals in
    ap (is_not_listed ns) (c.in-None.ensures ∙ known_is (entry_of c.args.principal.now))
