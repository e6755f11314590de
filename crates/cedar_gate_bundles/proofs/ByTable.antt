-- What is read by a table, for all functions with which it agrees.
use Rattle.std.proofs.Common.{◌≡◌, ℕ, suc, ◌<◌, true, List, [], ◌∷◌, length, drop, get_or, drop-cons, codes, Option, Some, None, option_map, refl, sym, ap, ◌∙◌}
use Rattle.std.specs.Prelude.{Result, Ok, Err, IfOk, IfErr}
use Rattle.serde_json.specs.Data.{Data}
use Rattle.serde_json.specs.Find.{as_str}
use Rattle.serde_json.specs.View.{view, items_view}
use Rattle.serde_json.specs.declared.value.Value.{Value}
use Rattle.cedar_expr_model.specs.Lists.{when}
use Rattle.cedar_expr_model.specs.Name.{Text}
use Rattle.cedar_expr_model.specs.Restricted.{is_restricted}
use Rattle.cedar_expr_model.specs.Tree.{Tree}
use Rattle.cedar_expr_model.specs.Uid.{Uid}
use Rattle.cedar_expr_model.specs.Value.{V}
use Rattle.cedar_store_model.specs.World as world
use Rattle.cedar_evaluator_model.specs.Response.{PartialRequest}
use Rattle.cedar_gate_model.specs.Acceptance.{Submission}
use Rattle.cedar_evaluator_model.specs.Functions.{Functions, left_of_restricted}
use Rattle.cedar_gate_model.specs.Reading.{given, required, optional, has_only, each, members_of}
use Rattle.cedar_gate_model.specs.ReadingBundle.{is_bundle, submission_read, bundle_read}
use Rattle.cedar_gate_model.specs.ReadingExpression.{second, expression_read}
use Rattle.cedar_gate_model.specs.ReadingForms.{if_passing}
use Rattle.cedar_gate_model.specs.ReadingName.{uid_read}
use Rattle.cedar_gate_model.specs.ReadingRequest.{request_read, store_read, steps_read, binding_read}
use Rattle.cedar_gate_model.specs.ReadingValue.{value_read, if_value}
use Rattle.cedar_gate_model.specs.Transcript as run
use Rattle.cedar_gate_expressions.proofs.Gathered.{then_rest}
use Rattle.cedar_gate_expressions.specs.Maps.{under_text}
use Rattle.cedar_gate_expressions.specs.declared.fault.ReadFault.{ReadFault}
use Rattle.cedar_gate_expressions.specs.declared.fault.ReadFault.TheVariants.{Unreadable}
use Rattle.cedar_gate_bundles.specs.Written.{entity_read_made}

-- what reads alike is read, or isn't, alike
pub read_alike : {A E M : Type 0} (T : Functions → Type 0) (o p : Functions → Option M) (s : A → M) (r : Result A E) → ((x : Functions) → p x ≡ o x)
    → IfOk r (λ v. (x : Functions) → T x → o x ≡ Some (s v)) → IfOk r (λ v. (x : Functions) → T x → p x ≡ Some (s v))
read_alike T o p s (Ok v) e h = λ x a. e x ∙ h x a
read_alike T o p s (Err f) e h = tt

pub unread_alike : {A M : Type 0} (T : Functions → Type 0) (o p : Functions → Option M) (r : Result A ReadFault) → ((x : Functions) → p x ≡ o x)
    → IfErr r (λ f. f ≡ Unreadable → (x : Functions) → T x → o x ≡ None) → IfErr r (λ f. f ≡ Unreadable → (x : Functions) → T x → p x ≡ None)
unread_alike T o p (Ok v) e h = tt
unread_alike T o p (Err f) e h = λ q x a. e x ∙ h q x a

-- a list isn't read where an item isn't
pub item_unread : {A : Type 0} (reading : Data → Option A) (done : List A) (vs : List Value) (i : ℕ) (v d : Value) → i < length vs → v ≡ get_or vs i d
    → then_rest done (each reading (items_view (drop i vs))) ≡ each reading (items_view vs) → reading (view v) ≡ None → each reading (items_view vs) ≡ None
item_unread reading done vs i v d below at was h =
    sym was ∙ ap (λ ws. then_rest done (each reading (items_view ws))) (drop-cons vs i d below)
    ∙ ap (λ w. then_rest done (each reading (items_view (w ∷ drop (suc i) vs)))) (sym at)
    ∙ ap (λ o. then_rest done (given o (λ a. option_map (λ more. a ∷ more) (each reading (items_view (drop (suc i) vs)))))) h

-- the value of an expression that is restricted
pub value_of_tree : (x : Functions) (d : Data) (t : Tree) → expression_read second d ≡ Some t → is_restricted t ≡ true → value_read x d ≡ if_value (left_of_restricted x t)
value_of_tree x d t h r =
    ap (λ o. given (given o (if_passing is_restricted)) (λ u. if_value (left_of_restricted x u))) h
    ∙ ap (λ b. given (when b (Some t)) (λ u. if_value (left_of_restricted x u))) r

-- a binding whose value isn't read, and an entity whose attributes aren't
pub binding_unread : (x : Functions) (d : Data) (n : Text) → has_only (codes "bind" ∷ codes "value" ∷ []) d ≡ true → required (codes "bind") as_str d ≡ Some n → required (codes "value") (value_read x) d ≡ None → binding_read x d ≡ None
binding_unread x d n h k v = rw (h, k, v) refl

pub attrs_unread : (x : Functions) (d : Data) (u : Uid) → has_only (codes "uid" ∷ codes "attrs" ∷ codes "tags" ∷ codes "ancestors" ∷ []) d ≡ true → required (codes "uid") uid_read d ≡ Some u
    → optional (codes "attrs") (members_of (under_text (value_read x))) [] d ≡ None → entity_read_made x d ≡ None
attrs_unread x d u h hu ha = rw (h, hu, ha) refl

-- a bundle whose store isn't read, and one that is read
module _ (x : Functions) (d : Data) (s : Submission) (q : PartialRequest) (h : is_bundle d ≡ true) (a : submission_read x d ≡ Some s) (b : required (codes "request") (request_read x) d ≡ Some q) where
  pub store_unread : required (codes "store") (store_read x) d ≡ None → bundle_read x d ≡ None
  store_unread c = rw (h, a, b, c) refl

  pub bundle_is : (es : List (Uid × world.Entity V)) (ss : List run.Step) → required (codes "store") (store_read x) d ≡ Some es → steps_read x d ≡ Some ss
      → bundle_read x d ≡ Some (record { submission = s; start = q; store = es; steps = ss })
  bundle_is es ss c e = rw (h, a, b, c, e) refl
