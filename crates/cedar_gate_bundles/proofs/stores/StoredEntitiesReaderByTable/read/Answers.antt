use Rattle.std.proofs.Common.{◌≡◌, Some, None, true, codes, [], ◌∷◌, map, sym, ap, ◌∙◌}
use Rattle.serde_json.specs.View.{view}
use Rattle.cedar_expr_names.specs.Views.{uid_of}
use Rattle.cedar_expr_values.specs.Extensions.{extension_of}
use Rattle.cedar_expr_values.specs.Values.{made}
use Rattle.cedar_store_entities.specs.Recorded.{all_recorded}
use Rattle.cedar_evaluator_restricted_exprs.specs.Answers.{AgreesWith}
use Rattle.cedar_evaluator_model.specs.Functions.{Functions}
use Rattle.cedar_gate_model.specs.Reading.{given, required, has_only}
use Rattle.cedar_gate_model.specs.ReadingName.{uid_read}
use Rattle.cedar_gate_expressions.specs.Maps.{texts_seen}
use Rattle.cedar_gate_bundles.specs.Written.{entity_read_made}
use Rattle.cedar_gate_bundles.proofs.Parted.{entity_made}
use Rattle.cedar_gate_bundles.proofs.Unread.{handed_on, tags_unread, ancestors_unread}
use Rattle.cedar_gate_bundles.proofs.ByTable.{attrs_unread}
use Rattle.cedar_gate_bundles.proofs.stores.StoredEntitiesReaderByTable.read.Goals as goal

pub returns-in_err-tags-clause-unreadable : goal.returns-in_err-tags-clause-unreadable
returns-in_err-tags-clause-unreadable g c =
    let d = view c.args.value.now in
    let h : has_only (codes "uid" ∷ codes "attrs" ∷ codes "tags" ∷ codes "ancestors" ∷ []) d ≡ true = sym c.has_only.ensures ∙ c.if-not-has_only.false in
    let hu : required (codes "uid") uid_read d ≡ Some (uid_of c.in_ok-uid.uid) = ap (λ o. given o uid_read) c.in_ok-required.ensures.ok ∙ c.in_ok-uid.ensures.ok in
    handed_on ((x : Functions) → AgreesWith c.args.table.now x → entity_read_made x d ≡ None) c.in_err-tags.field-0.0 c.from_residual-in_err-tags.result c.from_residual-in_err-tags.ensures.1 (λ q x a. tags_unread x d (uid_of c.in_ok-uid.uid) (texts_seen (made extension_of) c.in_ok-attrs.attrs.items) h hu (c.in_ok-attrs.ensures.ok x a) (c.in_err-tags.ensures.unreadable q x a))

pub returns-in_err-ancestors-clause-unreadable : goal.returns-in_err-ancestors-clause-unreadable
returns-in_err-ancestors-clause-unreadable g c =
    let d = view c.args.value.now in
    let h : has_only (codes "uid" ∷ codes "attrs" ∷ codes "tags" ∷ codes "ancestors" ∷ []) d ≡ true = sym c.has_only.ensures ∙ c.if-not-has_only.false in
    let hu : required (codes "uid") uid_read d ≡ Some (uid_of c.in_ok-uid.uid) = ap (λ o. given o uid_read) c.in_ok-required.ensures.ok ∙ c.in_ok-uid.ensures.ok in
    handed_on ((x : Functions) → AgreesWith c.args.table.now x → entity_read_made x d ≡ None) c.in_err-ancestors.field-0.0 c.from_residual-in_err-ancestors.result c.from_residual-in_err-ancestors.ensures.1 (λ q x a. ancestors_unread x d (uid_of c.in_ok-uid.uid) (texts_seen (made extension_of) c.in_ok-attrs.attrs.items) h hu (c.in_ok-attrs.ensures.ok x a) (texts_seen (made extension_of) c.in_ok-tags.tags.items) (c.in_ok-tags.ensures.ok x a) (c.in_err-ancestors.ensures.unreadable q))

pub returns-clause-ok : goal.returns-clause-ok
returns-clause-ok g c = λ x a.
    let d = view c.args.value.now in
    let h : has_only (codes "uid" ∷ codes "attrs" ∷ codes "tags" ∷ codes "ancestors" ∷ []) d ≡ true = sym c.has_only.ensures ∙ c.if-not-has_only.false in
    let hu : required (codes "uid") uid_read d ≡ Some (uid_of c.in_ok-uid.uid) = ap (λ o. given o uid_read) c.in_ok-required.ensures.ok ∙ c.in_ok-uid.ensures.ok in
    let us = map uid_of c.in_ok-ancestors.ancestors.items in
    entity_made x d c.in_ok-new.field-0 (uid_of c.in_ok-uid.uid) c.in_ok-attrs.attrs.items c.in_ok-tags.tags.items us h hu (c.in_ok-attrs.ensures.ok x a) (c.in_ok-tags.ensures.ok x a) c.in_ok-ancestors.ensures.ok c.in_ok-attrs.ensures.rising c.in_ok-tags.ensures.rising c.in_ok-new.ensures.uid c.in_ok-new.ensures.attributes c.in_ok-new.ensures.tags (c.in_ok-new.ensures.ancestors ∙ ap (λ vs. all_recorded (all_recorded [] us) (map uid_of vs)) c.new.ensures.items)

pub returns-in_err-attrs-clause-unreadable : goal.returns-in_err-attrs-clause-unreadable
returns-in_err-attrs-clause-unreadable g c =
    let d = view c.args.value.now in
    let h : has_only (codes "uid" ∷ codes "attrs" ∷ codes "tags" ∷ codes "ancestors" ∷ []) d ≡ true = sym c.has_only.ensures ∙ c.if-not-has_only.false in
    let hu : required (codes "uid") uid_read d ≡ Some (uid_of c.in_ok-uid.uid) = ap (λ o. given o uid_read) c.in_ok-required.ensures.ok ∙ c.in_ok-uid.ensures.ok in
    handed_on ((x : Functions) → AgreesWith c.args.table.now x → entity_read_made x d ≡ None) c.in_err-attrs.field-0.0 c.from_residual-in_err-attrs.result c.from_residual-in_err-attrs.ensures.1 (λ q x a. attrs_unread x d (uid_of c.in_ok-uid.uid) h hu (c.in_err-attrs.ensures.unreadable q x a))
