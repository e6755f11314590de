use Rattle.std.proofs.Common.{Err, map, sym, ap, ◌∙◌}
use Rattle.std.specs.Option.{option_copied}
use Rattle.cedar_expr_names.specs.Views.{name_of}
use Rattle.cedar_schema_decl.specs.Conditional.{conditional_of}
use Rattle.cedar_schema_decl.specs.Defined.{defined_of}
use Rattle.cedar_schema_fragments.specs.Actions.{parent_form}
use Rattle.cedar_schema_fragments.specs.Refusals.{no_action}
use Rattle.cedar_schema_fragments.proofs.Parents.{of_parent, parent_or, parent_is}
use Rattle.cedar_schema_fragments.proofs.Refusing.{inside}
use Rattle.cedar_schema_fragments.proofs.actions.ParentsResolve.resolve.Goals as goal

pub returns-in_ok-ty-in-Some-clause-made : goal.returns-in_ok-ty-in-Some-clause-made
returns-in_ok-ty-in-Some-clause-made c =
    let p = parent_form conditional_of c.args.part in
    parent_is (defined_of c.args.self.now.0.now) p c.as_slice.result.now (option_copied c.in_ok-ty.field-0) (ap (map name_of) c.as_slice.ensures.value ∙ c.possibilities-names.ensures.names) (sym c.in_ok-ty.ensures)
    ∙ ap (λ o. parent_or p (option_copied o)) c.in-Some.is
    ∙ ap (of_parent p.1) (sym c.in_ok-ty-in-Some.ensures.cases.0)

pub returns-in-None-clause-refused : goal.returns-in-None-clause-refused
returns-in-None-clause-refused c =
    let p = parent_form conditional_of c.args.part in
    λ r u.
    parent_is (defined_of c.args.self.now.0.now) p c.as_slice.result.now (option_copied c.in_ok-ty.field-0) (ap (map name_of) c.as_slice.ensures.value ∙ c.possibilities-names.ensures.names) (sym c.in_ok-ty.ensures)
    ∙ ap (λ o. parent_or p (option_copied o)) c.in-None.is
    ∙ ap Err (inside (no_action p) r u)
