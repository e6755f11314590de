use Rattle.std.proofs.Common.{subst}
use Rattle.cedar_schema_decl.proofs.Gathered.{handed}
use Rattle.cedar_schema_decl.specs.Defined.{defined_of}
use Rattle.cedar_schema_builder.specs.Gathered.{commons_gathered, entities_gathered, actions_gathered}
use Rattle.cedar_schema_resolver.specs.Uses.{common_forms}
use Rattle.cedar_schema_resolver.specs.Commons.{common_seen}
use Rattle.cedar_schema_resolver.specs.Meanings.{extensions_seen, setting}
use Rattle.cedar_schema_resolver.specs.Solved.{IsSolved, TellsUnsolved}
use Rattle.cedar_schema_assembly.specs.Refusals.{TellsTypes, TellsActions}
use Rattle.cedar_schema_assembly.specs.Seen.{types_seen, actions_seen}
use Rattle.cedar_schema_builder.specs.Faults.{of_types, of_assembly}
use Rattle.cedar_schema_builder.specs.FormSteps.{IsFaultOfForms}
use Rattle.cedar_schema_builder.specs.Steps.{NamesFaultOfWritten}
use Rattle.cedar_schema_builder.proofs.FormTelling.{commons_at_fault, types_at_fault, actions_at_fault}
use Rattle.cedar_schema_builder.proofs.Telling.{commons_named, types_named, actions_named}
use Rattle.cedar_schema_builder.proofs.build.assembled.Goals as goal

pub returns-in_err-commons-clause-named : goal.returns-in_err-commons-clause-named
returns-in_err-commons-clause-named c =
    let e = c.in_err-commons.field-0.0 in
    let d = defined_of c.args.all_defs.now in
    let x = extensions_seen c.args.extension_types.now in
    let cs = commons_gathered c.args.gathered.now in
    let es = entities_gathered c.args.gathered.now in
    let as_ = actions_gathered c.args.gathered.now in
    handed (NamesFaultOfWritten d x cs es as_) (of_types e) c.from_residual.result c.from_residual.ensures.1
    (commons_named c.names_are_declared.ensures.names d x cs es as_ e (subst (λ l. TellsUnsolved d x (common_forms l) e) c.deref.ensures.value c.in_err-commons.ensures.refused))

pub returns-in_err-entity_types-clause-named : goal.returns-in_err-entity_types-clause-named
returns-in_err-entity_types-clause-named c =
    let e = c.in_err-entity_types.field-0.0 in
    let d = defined_of c.args.all_defs.now in
    let x = extensions_seen c.args.extension_types.now in
    let cs = commons_gathered c.args.gathered.now in
    let es = entities_gathered c.args.gathered.now in
    let as_ = actions_gathered c.args.gathered.now in
    let m = common_seen c.in_ok-commons.commons in
    handed (NamesFaultOfWritten d x cs es as_) (of_assembly e) c.from_residual-in_err-entity_types.result c.from_residual-in_err-entity_types.ensures.1
    (types_named c.names_are_declared.ensures.names d x cs es as_ m e
    (subst (λ l. TellsTypes (setting m d x) (types_seen l) e) c.deref-2.ensures.value c.in_err-entity_types.ensures.refused))

pub returns-in_err-actions-clause-named : goal.returns-in_err-actions-clause-named
returns-in_err-actions-clause-named c =
    let e = c.in_err-actions.field-0.0 in
    let d = defined_of c.args.all_defs.now in
    let x = extensions_seen c.args.extension_types.now in
    let cs = commons_gathered c.args.gathered.now in
    let es = entities_gathered c.args.gathered.now in
    let as_ = actions_gathered c.args.gathered.now in
    let m = common_seen c.in_ok-commons.commons in
    handed (NamesFaultOfWritten d x cs es as_) (of_assembly e) c.from_residual-in_err-actions.result c.from_residual-in_err-actions.ensures.1
    (actions_named c.names_are_declared.ensures.names d x cs es as_ m c.names_are_declared.ensures.contexts
    (subst (λ l. IsSolved (setting m d x) (common_forms l)) c.deref.ensures.value c.in_ok-commons.ensures.solved) e
    (subst (λ l. TellsActions (setting m d x) (actions_seen l) e) c.deref-3.ensures.value c.in_err-actions.ensures.refused))

pub returns-in_err-commons-clause-at_fault : goal.returns-in_err-commons-clause-at_fault
returns-in_err-commons-clause-at_fault c =
    let e = c.in_err-commons.field-0.0 in
    let d = defined_of c.args.all_defs.now in
    let x = extensions_seen c.args.extension_types.now in
    let cs = commons_gathered c.args.gathered.now in
    let es = entities_gathered c.args.gathered.now in
    let as_ = actions_gathered c.args.gathered.now in
    handed (IsFaultOfForms d x cs es as_) (of_types e) c.from_residual.result c.from_residual.ensures.1
    (commons_at_fault d x cs es as_ e (subst (λ l. TellsUnsolved d x (common_forms l) e) c.deref.ensures.value c.in_err-commons.ensures.refused))

pub returns-in_err-entity_types-clause-at_fault : goal.returns-in_err-entity_types-clause-at_fault
returns-in_err-entity_types-clause-at_fault c =
    let e = c.in_err-entity_types.field-0.0 in
    let d = defined_of c.args.all_defs.now in
    let x = extensions_seen c.args.extension_types.now in
    let cs = commons_gathered c.args.gathered.now in
    let es = entities_gathered c.args.gathered.now in
    let as_ = actions_gathered c.args.gathered.now in
    let m = common_seen c.in_ok-commons.commons in
    handed (IsFaultOfForms d x cs es as_) (of_assembly e) c.from_residual-in_err-entity_types.result c.from_residual-in_err-entity_types.ensures.1
    (types_at_fault d x cs es as_ m e (subst (λ l. TellsTypes (setting m d x) (types_seen l) e) c.deref-2.ensures.value c.in_err-entity_types.ensures.refused))

pub returns-in_err-actions-clause-at_fault : goal.returns-in_err-actions-clause-at_fault
returns-in_err-actions-clause-at_fault c =
    let e = c.in_err-actions.field-0.0 in
    let d = defined_of c.args.all_defs.now in
    let x = extensions_seen c.args.extension_types.now in
    let cs = commons_gathered c.args.gathered.now in
    let es = entities_gathered c.args.gathered.now in
    let as_ = actions_gathered c.args.gathered.now in
    let m = common_seen c.in_ok-commons.commons in
    handed (IsFaultOfForms d x cs es as_) (of_assembly e) c.from_residual-in_err-actions.result c.from_residual-in_err-actions.ensures.1
    (actions_at_fault d x cs es as_ m (subst (λ l. IsSolved (setting m d x) (common_forms l)) c.deref.ensures.value c.in_ok-commons.ensures.solved) e
    (subst (λ l. TellsActions (setting m d x) (actions_seen l) e) c.deref-3.ensures.value c.in_err-actions.ensures.refused))
