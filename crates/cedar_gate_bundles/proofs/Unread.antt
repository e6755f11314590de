-- What isn't read, by the first part that isn't.
use Rattle.std.proofs.Common.{◌≡◌, [], ◌∷◌, List, map, true, codes, Some, None, refl, ap, sym, subst, ◌∙◌}
use Rattle.std.specs.Prelude.{Result, Ok, Err, IfErr}
use Rattle.std.specs.Result.{IsErrAnd}
use Rattle.serde_json.specs.Data.{Data, object, Members}
use Rattle.cedar_expr_model.specs.Name.{Text}
use Rattle.cedar_expr_model.specs.Uid.{Uid, uid_eq}
use Rattle.cedar_expr_model.specs.Lists.{when}
use Rattle.cedar_expr_model.specs.Made.{Made}
use Rattle.cedar_expr_model.specs.Repeats.{repeated}
use Rattle.cedar_expr_model.specs.Restricted.{is_restricted}
use Rattle.cedar_expr_model.specs.Tree.{Tree, TreeFields, record_literal}
use Rattle.cedar_expr_model.specs.Value.{V}
use Rattle.cedar_store_model.specs.Store.{are_distinct}
use Rattle.cedar_expr_partial.specs.declared.partial_value.PartialValue.{PartialValue}
use Rattle.cedar_expr_values.specs.declared.extension.ExtValue.{ExtValue}
use Rattle.cedar_evaluator_restricted_exprs.proofs.OfRecord.{left_is_of_record}
use Rattle.cedar_evaluator_restricted_exprs.specs.Contexts.{IsOfRecord}
use Rattle.cedar_evaluator_errors.specs.Outcomes.{left_seen}
use Rattle.cedar_store_model.specs.World as world
use Rattle.cedar_store_entities.specs.Views.{entity_uid, entity_pair}
use Rattle.cedar_store_entities.specs.declared.entity.Entity.{Entity}
use Rattle.cedar_evaluator_model.specs.Reauthorize.{context_from}
use Rattle.cedar_evaluator_model.specs.Response.{PartialRequest}
use Rattle.cedar_gate_model.specs.Reading.{given, required, optional, has_only, list_of, members_of}
use Rattle.cedar_gate_model.specs.Acceptance.{Submission}
use Rattle.cedar_evaluator_model.specs.Functions.{Functions, left_of_restricted}
use Rattle.cedar_gate_model.specs.ReadingBundle.{is_bundle, submission_read, bundle_read}
use Rattle.cedar_gate_model.specs.ReadingExpression.{second, fields_in}
use Rattle.cedar_gate_model.specs.ReadingForms.{if_passing}
use Rattle.cedar_gate_model.specs.ReadingName.{uid_read}
use Rattle.cedar_gate_model.specs.ReadingRequest.{entity_read, store_read, request_read, steps_read}
use Rattle.cedar_gate_model.specs.ReadingValue.{value_read, fields_context_read}
use Rattle.cedar_gate_expressions.specs.Maps.{under_text}
use Rattle.cedar_gate_expressions.specs.declared.fault.ReadFault.{ReadFault}
use Rattle.cedar_gate_expressions.specs.declared.fault.ReadFault.TheVariants.{Unreadable}
use Rattle.cedar_gate_bundles.specs.Written.{entity_read_made}
use Rattle.cedar_gate_bundles.proofs.Parted.{store_repeats}

-- an error that is handed on
pub handed_on : {A : Type 0} (P : Type 0) (e : ReadFault) (r : Result A ReadFault) → IsErrAnd r (λ y. y ≡ e) → (e ≡ Unreadable → P) → IfErr r (λ f. f ≡ Unreadable → P)
handed_on P e (Ok a) h k = absurd h
handed_on P e (Err f) h k = λ q. k (sym h ∙ q)

-- a context whose fields are read is what their record evaluates to
module _ (x : Functions) (ms : Members) (fs : TreeFields) (t : Tree) (h : fields_in second ms ≡ Some fs) (e : t ≡ record_literal fs) (r : is_restricted t ≡ true) where
  pub context_of_record : fields_context_read x (object ms) ≡ context_from (left_of_restricted x t)
  context_of_record =
      ap (λ o. given (given o (λ gs. if_passing is_restricted (record_literal gs))) (λ u. context_from (left_of_restricted x u))) h
      ∙ ap (λ u. given (if_passing is_restricted u) (λ v. context_from (left_of_restricted x v))) (sym e)
      ∙ ap (λ b. given (when b (Some t)) (λ v. context_from (left_of_restricted x v))) r

-- what is left of it is left of a record
pub is_left_of_record : (x : Functions) (fs : TreeFields) (t : Tree) (p : PartialValue ExtValue) → t ≡ record_literal fs → is_restricted t ≡ true → left_of_restricted x t ≡ left_seen p → IsOfRecord (left_seen p)
is_left_of_record x fs t p e r h = subst IsOfRecord h (subst (λ (u : Tree). IsOfRecord (left_of_restricted x u)) (sym e) (left_is_of_record x fs (ap is_restricted (sym e) ∙ r)))

-- an entity whose tags, or whose ancestors, aren't read
module _ (x : Functions) (d : Data) (u : Uid) (ps : List (Text × Made)) (h : has_only (codes "uid" ∷ codes "attrs" ∷ codes "tags" ∷ codes "ancestors" ∷ []) d ≡ true) (hu : required (codes "uid") uid_read d ≡ Some u) (ha : optional (codes "attrs") (members_of (under_text (value_read x))) [] d ≡ Some ps) where
  pub tags_unread : optional (codes "tags") (members_of (under_text (value_read x))) [] d ≡ None → entity_read_made x d ≡ None
  tags_unread ht = rw (h, hu, ha, ht) refl

  pub ancestors_unread : (ts : List (Text × Made)) → optional (codes "tags") (members_of (under_text (value_read x))) [] d ≡ Some ts → optional (codes "ancestors") (list_of uid_read) [] d ≡ None → entity_read_made x d ≡ None
  ancestors_unread ts ht hr = rw (h, hu, ha, ht, hr) refl

-- a list of entities of which two have one uid is no store
pub repeats_unread : (x : Functions) (d : Data) (es : List Entity) (u : Uid) → list_of (entity_read x) d ≡ Some (map entity_pair es) → repeated uid_eq (map entity_uid es) ≡ Some u → store_read x d ≡ None
repeats_unread x d es u h k = ap (λ o. given o (if_passing are_distinct)) h ∙ store_repeats es u k

-- a bundle whose steps aren't read
pub steps_unread : (x : Functions) (d : Data) (s : Submission) (q : PartialRequest) (es : List (Uid × world.Entity V)) → is_bundle d ≡ true → submission_read x d ≡ Some s → required (codes "request") (request_read x) d ≡ Some q → required (codes "store") (store_read x) d ≡ Some es → steps_read x d ≡ None → bundle_read x d ≡ None
steps_unread x d s q es h a b c e = rw (h, a, b, c, e) refl
