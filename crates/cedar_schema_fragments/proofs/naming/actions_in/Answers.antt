use Rattle.cedar_expr_names.specs.Namespaces.{space_of}
use Rattle.cedar_expr_names.specs.Views.{type_name_of}
use Rattle.cedar_schema_decl.specs.Conditional.{conditional_of}
use Rattle.cedar_schema_decl.proofs.Gathered.{handed}
use Rattle.cedar_schema_fragments.specs.Actions.{actions_form}
use Rattle.cedar_schema_fragments.specs.Qualified.{actions_qualified}
use Rattle.cedar_schema_fragments.specs.Refusals.{Refuses}
use Rattle.cedar_schema_fragments.specs.Written.{actions_written}
use Rattle.cedar_schema_fragments.proofs.Qualifying.{actions_made, actions_refused, some_written}
use Rattle.cedar_schema_fragments.proofs.naming.actions_in.Goals as goal

pub returns-in_err-ty-clause-refused : goal.returns-in_err-ty-clause-refused
returns-in_err-ty-clause-refused c =
    let space = space_of c.args.namespace in
    let written = actions_written c.args.actions.now.entries in
    handed (Refuses (actions_qualified space written)) c.in_err-ty.field-0.0 c.from_residual.result c.from_residual.ensures.1
    (λ q u. actions_refused space written q (some_written c.args.actions.now.entries c.is_empty.result c.is_empty.ensures c.if-is_empty.false) (c.in_err-ty.ensures.refused q u))

pub returns-clause-made : goal.returns-clause-made
returns-clause-made c = actions_made (space_of c.args.namespace) (actions_written c.args.actions.now.entries) (type_name_of c.in_ok-ty.ty) (actions_form conditional_of conditional_of c.in_ok-actions.actions) c.in_ok-ty.ensures.made c.in_ok-actions.ensures
