-- The course of a bundle that is read and accepted is proper.
use Rattle.std.proofs.Common.{◌≡◌, ◌∙◌, true, List, [], ◌∷◌, Option, Some, None, codes, refl, sym, ap, subst, ⊎_elim}
use Rattle.std.specs.Prelude.{Contains}
use Rattle.std.specs.Map.{lookup}
use Rattle.std.specs.Str.{bytes_eq}
use Rattle.serde_json.specs.Data.{Data, Items, no_items, item}
use Rattle.serde_json.specs.Find.{get, as_array, as_str}
use Rattle.cedar_expr_model.specs.Name.{Text}
use Rattle.cedar_expr_model.specs.Lists.{first_found}
use Rattle.cedar_expr_model.specs.Made.{Made, no_made_fields}
use Rattle.cedar_expr_model.specs.Restricted.{is_restricted, offence}
use Rattle.cedar_expr_model.specs.Table.{all_typed}
use Rattle.cedar_expr_model.specs.OfLaws.Fair.{IsFair}
use Rattle.cedar_expr_model.proofs.Lists.{contains_cases, contains_none}
use Rattle.cedar_store_model.proofs.Stores.{found_stands}
use Rattle.cedar_evaluator_model.specs.Response.{PartialRequest}
use Rattle.cedar_evaluator_model.specs.Scope.{Context, closed, residual_fields, unknown_context, Left, value_left, residual, stopped}
use Rattle.cedar_evaluator_model.specs.OfLaws.WellMade.{IsWellMade}
use Rattle.cedar_gate_model.specs.Reading.{given, required, optional, has_only, each, list_of}
use Rattle.cedar_gate_model.specs.Acceptance.{IsAccepted}
use Rattle.cedar_evaluator_model.specs.Functions.{Functions, with_functions, left_of_restricted}
use Rattle.cedar_gate_model.specs.Bundle.{Bundle}
use Rattle.cedar_gate_model.specs.ReadingBundle.{submission_read, is_bundle, bundle_read}
use Rattle.cedar_gate_model.specs.ReadingExpression.{second, expression_read}
use Rattle.cedar_gate_model.specs.ReadingForms.{if_passing, word_of}
use Rattle.cedar_gate_model.specs.ReadingRequest.{entry_read, request_read, store_read, binding_read, step_read, steps_read}
use Rattle.cedar_gate_model.specs.ReadingValue.{if_value, value_read, context_read}
use Rattle.cedar_gate_model.specs.RunLaws.{bindings_in}
use Rattle.cedar_gate_model.specs.RunsAnswer.{IsProper, MakeFairly, course_of}
use Rattle.cedar_gate_model.specs.RunsAsk.{IsMadeContext}
use Rattle.cedar_gate_model.specs.Transcript.{Step, load, bind_name, decide}
use Rattle.cedar_gate_model.proofs.Reading.Bundles.{bundle_parts, there_has, table_is_given, store_holds_values}
use Rattle.cedar_evaluator_model.proofs.Restricted.{none_is}
use Rattle.cedar_gate_model.proofs.Reading.Steps.{given_some, map_some, passing_some, beside_all, given_gives, map_gives, if_gives}
use Rattle.cedar_gate_model.proofs.Reading.Values.{first_some, open_contexts_have_unknowns}
use Rattle.cedar_gate_model.proofs.Runs.WellMade.{makes_well, evaluated_well}
use Rattle.cedar_gate_model.proofs.Named.{request_keys, step_words}

-- the request of a bundle, and its context
bundle_start : (x : Functions) (d : Data) (b : Bundle) → bundle_read x d ≡ Some b → required (codes "request") (request_read x) d ≡ Some b.start
bundle_start x d = if_gives (λ (b : Bundle). required (codes "request") (request_read x) d ≡ Some b.start) (is_bundle d) _ (λ _. given_gives (λ (b : Bundle). required (codes "request") (request_read x) d ≡ Some b.start) (submission_read x d) _ (λ submission p.
    given_gives (λ (b : Bundle). required (codes "request") (request_read x) d ≡ Some b.start) (required (codes "request") (request_read x) d) _ (λ start q.
    given_gives (λ (b : Bundle). required (codes "request") (request_read x) d ≡ Some b.start) (required (codes "store") (store_read x) d) _ (λ store r.
    map_gives (λ (b : Bundle). required (codes "request") (request_read x) d ≡ Some b.start) _ (steps_read x d) (λ steps t. q)))))

made_context : (x : Functions) (d : Data) (c : Context) → context_read x d ≡ Some c → IsMadeContext c
made_context x d (closed fs) e = tt
made_context x d (residual_fields fs) e = open_contexts_have_unknowns x d fs e
made_context x d unknown_context e = tt

abbrev MadeRequest : PartialRequest → Type 0
MadeRequest r = IsMadeContext r.context

request_made : (x : Functions) (d : Data) (r : PartialRequest) → request_read x d ≡ Some r → MadeRequest r
request_made x d = if_gives MadeRequest (has_only request_keys d) _ (λ _. given_gives MadeRequest (required (codes "principal") entry_read d) _ (λ principal p.
    given_gives MadeRequest (required (codes "action") entry_read d) _ (λ action q.
    given_gives MadeRequest (required (codes "resource") entry_read d) _ (λ resource r.
    map_gives MadeRequest _ (optional (codes "context") (context_read x) (closed no_made_fields) d)
    (λ context t. there_has IsMadeContext (context_read x) (closed no_made_fields) tt (made_context x) (get (codes "context") d) context t)))))

module _ (x : Functions) (fair : MakeFairly x) where
  -- values
  value_left_is : (l : Left) (m : Made) → if_value l ≡ Some m → l ≡ value_left m
  value_left_is (value_left k) m e = let q : k ≡ m = cc in ap value_left q
  value_left_is (residual r) m e = cc
  value_left_is (stopped why) m e = cc

  value_well : (d : Data) (m : Made) → value_read x d ≡ Some m → IsWellMade x.table m
  value_well d m e =
      let p = given_some (given (expression_read second d) (if_passing is_restricted)) (λ t. if_value (left_of_restricted x t)) m e in
      let q = given_some (expression_read second d) (if_passing is_restricted) p.0 p.1 in
      let r = passing_some is_restricted q.0 p.0 q.2 in
      evaluated_well (with_functions x) (λ n. refl) (makes_well x fair) 512 p.0 (none_is (offence p.0) (ap is_restricted r.1 ∙ r.0)) m (value_left_is (left_of_restricted x p.0) m p.2)

  -- steps
  abbrev BindsWell : List Step → Type 0
  BindsWell ss = (b : Text × Made) → Contains (bindings_in ss) b → IsWellMade x.table b.1

  abbrev StepWell : Step → Type 0
  StepWell load = Unit {0}
  StepWell (bind_name n m) = IsWellMade x.table m
  StepWell decide = Unit {0}

  word_well : (d : Data) (s : Step) → word_of step_words d ≡ Some s → StepWell s
  word_well d s e = let p = given_some (as_str d) (λ word. lookup (bytes_eq word) step_words) s e in beside_all StepWell p.0 step_words ((λ h. tt), ((λ h. tt), tt)) s p.2

  binding_well : (d : Data) (s : Step) → binding_read x d ≡ Some s → StepWell s
  binding_well d = if_gives StepWell (has_only (codes "bind" ∷ codes "value" ∷ []) d) _ (λ _. given_gives StepWell (required (codes "bind") as_str d) _ (λ name p.
      map_gives StepWell (bind_name name) (required (codes "value") (value_read x) d) (λ m q. (let v = given_some (get (codes "value") d) (value_read x) m q in value_well v.0 m v.2))))

  step_well : (d : Data) (s : Step) → step_read x d ≡ Some s → StepWell s
  step_well d s e =
      ⊎_elim (word_well d s) (λ h. ⊎_elim (binding_well d s) (λ k. cc) (first_some (binding_read x d) None s h))
      (first_some (word_of step_words d) (first_found (λ (form : Data → Option Step). form d) (binding_read x ∷ [])) s e)

  more_well : (s : Step) (ss : List Step) → StepWell s → BindsWell ss → BindsWell (s ∷ ss)
  more_well load ss h k b m = k b m
  more_well (bind_name n m) ss h k b i = contains_cases (IsWellMade x.table b.1) (n, m) (bindings_in ss) b i (λ e. subst (λ (z : Text × Made). IsWellMade x.table z.1) e h) (k b)
  more_well decide ss h k b m = k b m

  each_well : (ds : Items) (ss : List Step) → each (step_read x) ds ≡ Some ss → BindsWell ss
  each_well no_items ss e = let q : [] ≡ ss = cc in subst BindsWell q (λ b k. absurd (contains_none b k))
  each_well (item d ds) ss e =
      let p = given_some (step_read x d) _ ss e in
      let q = map_some (λ more. p.0 ∷ more) (each (step_read x) ds) ss p.2 in
      subst BindsWell (sym q.2) (more_well p.0 q.0 (step_well d p.0 p.1) (each_well ds q.0 q.1))

  steps_well : (d : Data) (ss : List Step) → steps_read x d ≡ Some ss → BindsWell ss
  steps_well d ss e =
      there_has BindsWell (list_of (step_read x)) [] (λ b k. absurd (contains_none b k)) (λ f ts q. (let p = given_some (as_array f) (each (step_read x)) ts q in each_well p.0 ts p.2)) (get (codes "steps") d) ss e

pub bundles_are_proper : (x : Functions) (d : Data) (b : Bundle) → MakeFairly x → bundle_read x d ≡ Some b → IsAccepted b.submission → IsProper (course_of x b)
bundles_are_proper x d b fair e accepted =
    let same = table_is_given x d b e in
    let start = given_some (get (codes "request") d) (request_read x) b.start (bundle_start x d b e) in
    let answers = fair.answers in
    record {
      admitted = record {
        accepted = accepted;
        fair = record { table = sym same; fair = subst IsFair (sym same) answers.fair; typed = subst (λ t. all_typed t ≡ true) (sym same) answers.typed; agrees = answers.agrees };
        context = request_made x start.0 b.start start.2;
        store = λ u f q. store_holds_values x d b e (u, f) (found_stands b.store u f q);
      };
      values = steps_well x fair d b.steps (bundle_parts x d b e).steps;
    }
