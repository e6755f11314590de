use Rattle.std.proofs.Common.{Some, sym, ap, ◌∙◌}
use Rattle.std.specs.Prelude.{is_some}
use Rattle.cedar_schema_decl.proofs.Gathered.{handed}
use Rattle.cedar_schema_builder.specs.Looking.{name_found}
use Rattle.cedar_schema_builder.specs.Faults.{of_fragments}
use Rattle.cedar_schema_builder.specs.FormSteps.{IsFaultOfNames}
use Rattle.cedar_schema_builder.specs.Steps.{NamesFaultIn}
use Rattle.cedar_schema_builder.specs.declared.err.SchemaError.TheVariants.{OutOfMemory}
use Rattle.cedar_schema_builder.proofs.Naming.{named, memory_named, reserved_named, typed_named, names_formed, memory_of_names, reserved_at_fault, typed_at_fault}
use Rattle.cedar_schema_builder.proofs.build.check_names.Goals as goal

pub returns-in_err-check_reserved-clause-named : goal.returns-in_err-check_reserved-clause-named
returns-in_err-check_reserved-clause-named c =
    let fs = c.args.fragments.now in
    let e = c.in_err-check_reserved.field-0.0 in
    handed (NamesFaultIn fs) (of_fragments e) c.from_residual.result c.from_residual.ensures.1
    (reserved_named fs c.refusals_name_faults.ensures.reserved e c.in_err-check_reserved.ensures.refused)

pub returns-in_err-name-in-Some-clause-named : goal.returns-in_err-name-in-Some-clause-named
returns-in_err-name-in-Some-clause-named c = handed (NamesFaultIn c.args.fragments.now) OutOfMemory c.from_residual-in_err-name-in-Some.result c.from_residual-in_err-name-in-Some.ensures.1 (memory_named c.args.fragments.now)

pub returns-in_ok-name-in-Some-clause-named : goal.returns-in_ok-name-in-Some-clause-named
returns-in_ok-name-in-Some-clause-named c =
    typed_named c.args.fragments.now c.refusals_name_faults.ensures.action_type c.in_ok-name-in-Some.name
    (sym c.action_entity_type.ensures ∙ ap name_found c.in-Some.is ∙ ap Some (sym c.in_ok-name-in-Some.ensures.cases.0))

pub returns-in-None-clause-passed : goal.returns-in-None-clause-passed
returns-in-None-clause-passed c =
    named c.args.fragments.now c.reserved_names_are_written.ensures.fault c.action_types_are_found.ensures c.in_ok-check_reserved.field-0 c.in_ok-check_reserved.ensures.passed
    (ap is_some (sym c.action_entity_type.ensures) ∙ ap (λ o. is_some (name_found o)) c.in-None.is)

pub returns-in_err-check_reserved-clause-at_fault : goal.returns-in_err-check_reserved-clause-at_fault
returns-in_err-check_reserved-clause-at_fault c =
    let fs = c.args.fragments.now in
    let e = c.in_err-check_reserved.field-0.0 in
    handed (IsFaultOfNames fs) (of_fragments e) c.from_residual.result c.from_residual.ensures.1 (reserved_at_fault fs e c.in_err-check_reserved.ensures.refused)

pub returns-in_err-name-in-Some-clause-at_fault : goal.returns-in_err-name-in-Some-clause-at_fault
returns-in_err-name-in-Some-clause-at_fault c = handed (IsFaultOfNames c.args.fragments.now) OutOfMemory c.from_residual-in_err-name-in-Some.result c.from_residual-in_err-name-in-Some.ensures.1 (memory_of_names c.args.fragments.now)

pub returns-in_ok-name-in-Some-clause-at_fault : goal.returns-in_ok-name-in-Some-clause-at_fault
returns-in_ok-name-in-Some-clause-at_fault c =
    typed_at_fault c.args.fragments.now c.in_ok-name-in-Some.name
    (sym c.action_entity_type.ensures ∙ ap name_found c.in-Some.is ∙ ap Some (sym c.in_ok-name-in-Some.ensures.cases.0))

pub returns-in-None-clause-formed : goal.returns-in-None-clause-formed
returns-in-None-clause-formed c =
    names_formed c.args.fragments.now c.in_ok-check_reserved.field-0 c.in_ok-check_reserved.ensures.passed (sym c.action_entity_type.ensures ∙ ap name_found c.in-None.is)
