use Rattle.cedar_schema_decl.proofs.Gathered.{handed}
use Rattle.cedar_schema_decl.specs.Defined.{defined_of}
use Rattle.cedar_schema_builder.specs.Gathered.{commons_gathered, entities_gathered, actions_gathered}
use Rattle.cedar_schema_builder.specs.Faults.{of_shadowing, of_fragments}
use Rattle.cedar_schema_builder.specs.FormSteps.{IsFaultOfSets}
use Rattle.cedar_schema_builder.specs.Steps.{NamesFaultIn}
use Rattle.cedar_schema_builder.specs.declared.err.SchemaError.TheVariants.{OutOfMemory}
use Rattle.cedar_schema_builder.proofs.Forming.{memory_of_sets, shadowing_at_fault, resolving_at_fault, forms_gathered}
use Rattle.cedar_schema_builder.proofs.Gathering.{shadowing_named, resolving_named, are_gathered}
use Rattle.cedar_schema_builder.proofs.Naming.{memory_named}
use Rattle.cedar_schema_builder.proofs.build.gathered.Goals as goal

pub returns-in_err-rfc_70_shadowing_checks-clause-named : goal.returns-in_err-rfc_70_shadowing_checks-clause-named
returns-in_err-rfc_70_shadowing_checks-clause-named c =
    let fs = c.args.fragments.items in
    let e = c.in_err-rfc_70_shadowing_checks.field-0.0 in
    handed (NamesFaultIn fs) (of_shadowing e) c.from_residual.result c.from_residual.ensures.1
    (shadowing_named fs (defined_of c.args.all_defs.now) c.requires c.written_are_declared.ensures.types c.written_are_declared.ensures.actions e c.in_err-rfc_70_shadowing_checks.ensures.refused)

pub returns-in_err-resolved-clause-named : goal.returns-in_err-resolved-clause-named
returns-in_err-resolved-clause-named c =
    let fs = c.args.fragments.items in
    let e = c.in_err-resolved.field-0.0 in
    handed (NamesFaultIn fs) (of_fragments e) c.from_residual-in_err-resolved.result c.from_residual-in_err-resolved.ensures.1
    (resolving_named fs (defined_of c.args.all_defs.now) c.requires c.refusals_name_faults.ensures.refused e c.in_err-resolved.ensures.refused)

pub returns-in_err-gathered-clause-named : goal.returns-in_err-gathered-clause-named
returns-in_err-gathered-clause-named c = handed (NamesFaultIn c.args.fragments.items) OutOfMemory c.from_residual-in_err-gathered.result c.from_residual-in_err-gathered.ensures.1 (memory_named c.args.fragments.items)

pub returns-clause-gathered : goal.returns-clause-gathered
returns-clause-gathered c =
    are_gathered c.args.fragments.items (defined_of c.args.all_defs.now) c.requires c.resolved_fragments_are_written.ensures.one_by_one c.in_ok-resolved.resolved.items c.in_ok-resolved.ensures.resolved
    (commons_gathered c.in_ok-gathered.gathered) (entities_gathered c.in_ok-gathered.gathered) (actions_gathered c.in_ok-gathered.gathered) c.in_ok-gathered.ensures.commons c.in_ok-gathered.ensures.entities c.in_ok-gathered.ensures.actions
    c.in_ok-rfc_70_shadowing_checks.ensures.passed

pub returns-in_err-rfc_70_shadowing_checks-clause-at_fault : goal.returns-in_err-rfc_70_shadowing_checks-clause-at_fault
returns-in_err-rfc_70_shadowing_checks-clause-at_fault c =
    let fs = c.args.fragments.items in
    let s = defined_of c.args.all_defs.now in
    let e = c.in_err-rfc_70_shadowing_checks.field-0.0 in
    handed (IsFaultOfSets fs s) (of_shadowing e) c.from_residual.result c.from_residual.ensures.1 (shadowing_at_fault fs s e c.in_err-rfc_70_shadowing_checks.ensures.refused)

pub returns-in_err-resolved-clause-at_fault : goal.returns-in_err-resolved-clause-at_fault
returns-in_err-resolved-clause-at_fault c =
    let fs = c.args.fragments.items in
    let s = defined_of c.args.all_defs.now in
    let e = c.in_err-resolved.field-0.0 in
    handed (IsFaultOfSets fs s) (of_fragments e) c.from_residual-in_err-resolved.result c.from_residual-in_err-resolved.ensures.1 (resolving_at_fault fs s c.requires e c.in_err-resolved.ensures.refused)

pub returns-in_err-gathered-clause-at_fault : goal.returns-in_err-gathered-clause-at_fault
returns-in_err-gathered-clause-at_fault c =
    let fs = c.args.fragments.items in
    let s = defined_of c.args.all_defs.now in
    handed (IsFaultOfSets fs s) OutOfMemory c.from_residual-in_err-gathered.result c.from_residual-in_err-gathered.ensures.1 (memory_of_sets fs s)

pub returns-clause-formed : goal.returns-clause-formed
returns-clause-formed c =
    forms_gathered c.args.fragments.items (defined_of c.args.all_defs.now) c.in_ok-resolved.resolved.items c.in_ok-resolved.ensures.resolved
    (commons_gathered c.in_ok-gathered.gathered) (entities_gathered c.in_ok-gathered.gathered) (actions_gathered c.in_ok-gathered.gathered) c.in_ok-gathered.ensures.commons c.in_ok-gathered.ensures.entities c.in_ok-gathered.ensures.actions
    c.in_ok-rfc_70_shadowing_checks.ensures.passed
