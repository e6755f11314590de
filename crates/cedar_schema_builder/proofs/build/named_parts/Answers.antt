use Rattle.std.proofs.Common.{◌≡◌, ap, ◌∙◌, subst}
use Rattle.cedar_schema_decl.proofs.Gathered.{handed}
use Rattle.cedar_schema_decl.specs.Defined.{defined_of}
use Rattle.cedar_schema_builder.specs.Gathered.{commons_gathered, entities_gathered, actions_gathered}
use Rattle.cedar_schema_resolver.specs.Meanings.{extensions_seen}
use Rattle.cedar_schema_fragments.specs.Marked.{HasAll}
use Rattle.cedar_schema_builder.specs.Built.{types_made, actions_made, NamesFaultOf}
use Rattle.cedar_schema_builder.specs.FormSteps.{AreNamesFormed, IsFaultOfNames}
use Rattle.cedar_schema_builder.specs.OfFragments.{Fragments, sets_of, IsFaultBy, IsFaultInFragments}
use Rattle.cedar_schema_builder.specs.Steps.{NamesFaultIn}
use Rattle.cedar_schema_builder.specs.declared.err.SchemaError.TheVariants.{OutOfMemory}
use Rattle.cedar_schema_builder.proofs.Forming.{forms_at_fault, built_of_formed}
use Rattle.cedar_schema_builder.proofs.build.named_parts.Goals as goal

pub returns-in_err-check_names-clause-named : goal.returns-in_err-check_names-clause-named
returns-in_err-check_names-clause-named c =
    let x = extensions_seen c.args.extension_types.now in
    let fs = c.args.fragments.items in
    let e = c.in_err-check_names.field-0.0 in
    handed (NamesFaultOf x fs) e c.from_residual.result c.from_residual.ensures.1
    (c.refused_steps_name_faults.ensures.at_first x fs e (subst (λ l. NamesFaultIn l e) c.deref.ensures.value c.in_err-check_names.ensures.named))

pub returns-in_err-all_defs-clause-named : goal.returns-in_err-all_defs-clause-named
returns-in_err-all_defs-clause-named c = handed (NamesFaultOf (extensions_seen c.args.extension_types.now) c.args.fragments.items) OutOfMemory c.from_residual-in_err-all_defs.result c.from_residual-in_err-all_defs.ensures.1 (record { each = λ d w. tt })

pub returns-in_err-gathered-clause-named : goal.returns-in_err-gathered-clause-named
returns-in_err-gathered-clause-named c =
    let x = extensions_seen c.args.extension_types.now in
    let fs = c.args.fragments.items in
    let e = c.in_err-gathered.field-0.0 in
    handed (NamesFaultOf x fs) e c.from_residual-in_err-gathered.result c.from_residual-in_err-gathered.ensures.1
    (c.refused_steps_name_faults.ensures.at_first x fs e c.in_err-gathered.ensures.named)

pub returns-in_err-parts-clause-named : goal.returns-in_err-parts-clause-named
returns-in_err-parts-clause-named c =
    let x = extensions_seen c.args.extension_types.now in
    let fs = c.args.fragments.items in
    let e = c.in_err-parts.field-0.0 in
    let g = c.in_ok-gathered.gathered in
    handed (NamesFaultOf x fs) e c.from_residual-in_err-parts.result c.from_residual-in_err-parts.ensures.1
    (c.refused_steps_name_faults.ensures.at_last x fs (defined_of c.in_ok-all_defs.all_defs) (commons_gathered g) (entities_gathered g) (actions_gathered g) e c.in_ok-gathered.ensures.gathered c.in_err-parts.ensures.named)

pub returns-in_err-check_names-clause-at_fault : goal.returns-in_err-check_names-clause-at_fault
returns-in_err-check_names-clause-at_fault c =
    let x = extensions_seen c.args.extension_types.now in
    let fs = c.args.fragments.items in
    let e = c.in_err-check_names.field-0.0 in
    handed (IsFaultInFragments x fs) e c.from_residual.result c.from_residual.ensures.1
    ((subst (λ l. IsFaultOfNames l e) c.deref.ensures.value c.in_err-check_names.ensures.at_fault).each (sets_of fs) x)

pub returns-in_err-all_defs-clause-at_fault : goal.returns-in_err-all_defs-clause-at_fault
returns-in_err-all_defs-clause-at_fault c = handed (IsFaultInFragments (extensions_seen c.args.extension_types.now) c.args.fragments.items) OutOfMemory c.from_residual-in_err-all_defs.result c.from_residual-in_err-all_defs.ensures.1 tt

pub returns-in_err-gathered-clause-at_fault : goal.returns-in_err-gathered-clause-at_fault
returns-in_err-gathered-clause-at_fault c =
    let x = extensions_seen c.args.extension_types.now in
    let fs = c.args.fragments.items in
    let e = c.in_err-gathered.field-0.0 in
    let n : AreNamesFormed fs = subst AreNamesFormed c.deref.ensures.value c.in_ok-check_names.ensures.formed in
    let same : defined_of c.in_ok-all_defs.all_defs ≡ sets_of fs = c.in_ok-all_defs.ensures.marked ∙ ap sets_of c.deref-2.ensures.value in
    handed (IsFaultInFragments x fs) e c.from_residual-in_err-gathered.result c.from_residual-in_err-gathered.ensures.1
    (subst (λ s. IsFaultBy s x fs e) same (c.in_err-gathered.ensures.at_fault.each n.none_reserved x))

pub returns-in_err-parts-clause-at_fault : goal.returns-in_err-parts-clause-at_fault
returns-in_err-parts-clause-at_fault c =
    let x = extensions_seen c.args.extension_types.now in
    let fs = c.args.fragments.items in
    let e = c.in_err-parts.field-0.0 in
    let g = c.in_ok-gathered.gathered in
    let s = defined_of c.in_ok-all_defs.all_defs in
    let n : AreNamesFormed fs = subst AreNamesFormed c.deref.ensures.value c.in_ok-check_names.ensures.formed in
    let same : s ≡ sets_of fs = c.in_ok-all_defs.ensures.marked ∙ ap sets_of c.deref-2.ensures.value in
    let has : HasAll fs s = subst (λ (l : Fragments). HasAll l s) c.deref-2.ensures.value c.in_ok-all_defs.ensures.declared in
    handed (IsFaultInFragments x fs) e c.from_residual-in_err-parts.result c.from_residual-in_err-parts.ensures.1
    (subst (λ s. IsFaultBy s x fs e) same
    (forms_at_fault fs s x (commons_gathered g) (entities_gathered g) (actions_gathered g) c.in_ok-gathered.ensures.formed has n.none_reserved e c.in_err-parts.ensures.at_fault))

pub returns-clause-formed : goal.returns-clause-formed
returns-clause-formed c =
    let x = extensions_seen c.args.extension_types.now in
    let fs = c.args.fragments.items in
    let g = c.in_ok-gathered.gathered in
    let p = c.in_ok-parts.parts in
    let s = defined_of c.in_ok-all_defs.all_defs in
    let n : AreNamesFormed fs = subst AreNamesFormed c.deref.ensures.value c.in_ok-check_names.ensures.formed in
    let same : s ≡ sets_of fs = c.in_ok-all_defs.ensures.marked ∙ ap sets_of c.deref-2.ensures.value in
    let has : HasAll fs s = subst (λ (l : Fragments). HasAll l s) c.deref-2.ensures.value c.in_ok-all_defs.ensures.declared in
    built_of_formed x fs n (types_made p) (actions_made p) s same (commons_gathered g) (entities_gathered g) (actions_gathered g) has c.in_ok-gathered.ensures.formed c.in_ok-parts.ensures.made
