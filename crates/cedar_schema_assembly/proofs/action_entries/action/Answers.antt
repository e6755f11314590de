use Rattle.std.proofs.Common.{◌≡◌, true, false, map, sym, ap, ◌∙◌, subst}
use Rattle.std.proofs.lemmas.Bool.{true≢false}
use Rattle.std.specs.Prelude.{Contains}
use Rattle.cedar_expr_names.specs.Views.{name_of, type_name_of, uid_of}
use Rattle.cedar_schema_model.specs.Contexts.{is_record_type}
use Rattle.cedar_schema_entries.specs.Views.{applied_seen, action_seen}
use Rattle.cedar_schema_fragments.specs.Actions.{principals_form, resources_form, context_form, is_elsewhere}
use Rattle.cedar_schema_fragments.specs.declared.actions.ActionFragmentKind.TheVariants.{Declared}
use Rattle.cedar_schema_model.specs.Resolved.{attributes_of_record}
use Rattle.cedar_schema_model.specs.Types.{record_type, is_closed}
use Rattle.cedar_schema_resolver.specs.Meanings.{setting_of, extensions_seen, told}
use Rattle.cedar_schema_resolver.specs.Refusals.{AreKnown}
use Rattle.cedar_schema_types.specs.Types.{type_of}
use Rattle.cedar_schema_assembly.specs.Lists.{IsSetOf}
use Rattle.cedar_schema_assembly.specs.Refusals.{TellsContext}
use Rattle.cedar_schema_assembly.specs.Seen.{action_under_uid}
use Rattle.cedar_schema_assembly.proofs.Standing.{action_made, external_made}
use Rattle.cedar_schema_assembly.proofs.Telling.{action_of_context}
use Rattle.cedar_schema_assembly.proofs.action_entries.action.Goals as goal

pub returns-in_ok-resources-in-Declared-clause-made : goal.returns-in_ok-resources-in-Declared-clause-made
returns-in_ok-resources-in-Declared-clause-made c =
    let s = setting_of c.args.resolver.now in
    let below = map uid_of c.args.below.keys in
    let ps = map type_name_of c.in_ok-principals-in-Declared.principals.keys in
    let rs = map type_name_of c.in_ok-resources-in-Declared.resources.keys in
    let kind = sym c.in-Declared.is in
    action_made s (action_under_uid c.args.entry.now) below (action_seen c.new_defined.result) (uid_of c.in_ok-uid.uid) (applied_seen c.new-applies_to.result) ps rs (type_of c.in-Ok.context) false
    c.new_defined.ensures.kept c.new-applies_to.ensures c.in_ok-uid.ensures.cases.0
    (subst (λ k. IsSetOf (principals_form type_name_of k) ps) kind (subst (λ xs. IsSetOf (map type_name_of xs) ps) c.deref.ensures.value c.in_ok-principals-in-Declared.ensures))
    (subst (λ k. IsSetOf (resources_form type_name_of k) rs) kind (subst (λ xs. IsSetOf (map type_name_of xs) rs) c.deref-in-Declared.ensures.value c.in_ok-resources-in-Declared.ensures))
    (c.in-Ok.ensures.told ∙ ap (λ k. record_type (attributes_of_record (told s (context_form name_of k))) is_closed) kind) (ap is_elsewhere kind)
    (subst (λ k. AreKnown (extensions_seen c.args.resolver.now.extension_types.now) (context_form name_of k)) kind c.in-Ok.ensures.known)
    (subst (λ k. is_record_type (told s (context_form name_of k)) ≡ true) kind c.in-Ok.ensures.is_record)
    (λ h. true≢false (sym (c.has.ensures.1 (subst (Contains below) (sym c.in_ok-uid.ensures.cases.0) h)) ∙ c.if-has.false))

pub returns-in_ok-action-in-External-clause-made : goal.returns-in_ok-action-in-External-clause-made
returns-in_ok-action-in-External-clause-made c =
    let s = setting_of c.args.resolver.now in
    let below = map uid_of c.args.below.keys in
    let kind = c.in-External.is in
    external_made s (action_under_uid c.args.entry.now) below (action_seen c.in_ok-action-in-External.action) (uid_of c.in_ok-uid.uid) c.in_ok-action-in-External.ensures.kept c.in_ok-uid.ensures.cases.0
    (ap (principals_form type_name_of) kind) (ap (resources_form type_name_of) kind) (ap (context_form name_of) kind) (ap is_elsewhere kind)
    (λ h. true≢false (sym (c.has.ensures.1 (subst (Contains below) (sym c.in_ok-uid.ensures.cases.0) h)) ∙ c.if-has.false))

pub returns-in-Err-clause-refused : goal.returns-in-Err-clause-refused
returns-in-Err-clause-refused c =
    let s = setting_of c.args.resolver.now in
    action_of_context s (action_under_uid c.args.entry.now) (map uid_of c.args.below.keys) c.in-Err.error
    (subst (λ k. TellsContext s (uid_of c.args.entry.now.0) (context_form name_of k) c.in-Err.error) (sym c.in-Declared.is)
    (subst (λ u. TellsContext s u (context_form name_of (Declared c.in-Declared.applies_to c.in-Declared.context)) c.in-Err.error) c.in_ok-uid.ensures.cases.0 c.in-Err.ensures.refused))
