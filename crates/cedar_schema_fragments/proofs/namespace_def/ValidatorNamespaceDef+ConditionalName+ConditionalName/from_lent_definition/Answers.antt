use Rattle.std.proofs.Common.{Ok, ap, sym, ◌∙◌}
use Rattle.cedar_schema_decl.specs.Requalified.{and_then}
use Rattle.cedar_schema_decl.proofs.Gathered.{handed}
use Rattle.cedar_schema_fragments.specs.Qualified.{qualified_with, actions_qualified, namespace_qualified}
use Rattle.cedar_schema_fragments.specs.Refusals.{Refuses}
use Rattle.cedar_schema_fragments.specs.Written.{written_namespace, actions_written}
use Rattle.cedar_schema_fragments.proofs.Qualifying.{space_is}
use Rattle.cedar_schema_fragments.proofs.namespace_def.ValidatorNamespaceDef+ConditionalName+ConditionalName.from_lent_definition.Goals as goal

pub returns-in_err-actions-clause-refused : goal.returns-in_err-actions-clause-refused
returns-in_err-actions-clause-refused c =
    let w = written_namespace c.args.namespace.now c.args.definition.now in
    let space = space_is c.as_ref-space.result c.args.namespace.now c.as_ref-space.ensures.value in
    handed (Refuses (namespace_qualified w)) c.in_err-actions.field-0.0 c.from_residual-in_err-actions.result c.from_residual-in_err-actions.ensures.1
    (λ q u. ap (λ o. and_then (λ us. Ok (qualified_with w us)) (actions_qualified o (actions_written c.args.definition.now.actions.entries))) (sym space) ∙ ap (and_then (λ us. Ok (qualified_with w us))) (c.in_err-actions.ensures.refused q u))
