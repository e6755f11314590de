-- Reauthorizing where nothing is unknown any more.
use Rattle.std.proofs.Common.{◌≡◌, ℕ, false, List, [], sym, ap, ◌∙◌, bytes_eq}
use Rattle.std.specs.Prelude.{Option, Some, None, All}
use Rattle.cedar_expr_model.specs.Name.{Text}
use Rattle.cedar_expr_model.specs.Substitution.{Bindings}
use Rattle.cedar_store_model.specs.Policy.{Policy}
use Rattle.cedar_store_model.specs.Answer.{ids, answer_of}
use Rattle.cedar_evaluator_model.specs.Scope.{Scope}
use Rattle.cedar_evaluator_model.specs.OfLaws.Calls.{Agrees}
use Rattle.cedar_evaluator_model.specs.Known.{known_world}
use Rattle.cedar_evaluator_model.specs.OfLaws.Whole.{NothingUnknown, AllLoaded}
use Rattle.cedar_evaluator_model.specs.Response.{PartialRequest, Response, response_of}
use Rattle.cedar_evaluator_model.specs.Members.{all_residuals, concretize, met_limit, nontrivial_residuals}
use Rattle.cedar_evaluator_model.specs.Reauthorize.{Outcome, makes_it, and_next, request_bound, resumed, reauthorized, repeated_id, refuses}
use Rattle.cedar_evaluator_model.specs.Laws.{IsBound, as_concrete}
use Rattle.cedar_evaluator_model.proofs.Responses.{answers, no_residuals}
use Rattle.cedar_expr_model.specs.Repeats.{repeated}
use Rattle.std.specs.Option.{option_map_or}

-- what reauthorizing makes is the response to what is left
made_case : (s : Scope) (n : ℕ) (env : Bindings) (ps : List Policy) (o : Option Text) (x : Outcome PartialRequest) (b : PartialRequest) (q : Response) → x ≡ makes_it b → and_next (option_map_or (λ i. refuses (repeated_id i)) o (makes_it ps)) (λ ps. and_next x (λ c. makes_it (response_of (resumed s env c) n ps))) ≡ makes_it q → q ≡ response_of (resumed s env b) n ps
made_case s n env ps None x b q e h =
    let k : makes_it (response_of (resumed s env b) n ps) ≡ makes_it q = ap (λ y. and_next y (λ c. makes_it (response_of (resumed s env c) n ps))) (sym e) ∙ h in
    cc
made_case s n env ps (Some i) x b q e h = cc

pub again_is : (s : Scope) (n : ℕ) (env : Bindings) (r q : Response) (b : PartialRequest) → request_bound s env r.request ≡ makes_it b → reauthorized s n env r ≡ makes_it q → q ≡ response_of (resumed s env b) n (all_residuals r)
again_is s n env r q b e h = made_case s n env (all_residuals r) (repeated bytes_eq (ids (all_residuals r))) (request_bound s env r.request) b q e h

pub again_leaves_none : (s : Scope) (n : ℕ) (env : Bindings) (r q : Response) (b : PartialRequest) → request_bound s env r.request ≡ makes_it b → reauthorized s n env r ≡ makes_it q → Agrees s → NothingUnknown (resumed s env b) → AllLoaded s → All (IsBound (resumed s env b)) (all_residuals r) → nontrivial_residuals q ≡ []
again_leaves_none s n env r q b e h agrees k l f = ap nontrivial_residuals (again_is s n env r q b e h) ∙ no_residuals (resumed s env b) agrees k l n (all_residuals r) f

pub again_answers : (s : Scope) (n : ℕ) (env : Bindings) (r q : Response) (b : PartialRequest) → request_bound s env r.request ≡ makes_it b → reauthorized s n env r ≡ makes_it q → Agrees s → NothingUnknown (resumed s env b) → AllLoaded s → All (IsBound (resumed s env b)) (all_residuals r) → met_limit q ≡ false → concretize q ≡ as_concrete (answer_of (known_world (resumed s env b)) (all_residuals r))
again_answers s n env r q b e h agrees k l f m =
    let same = again_is s n env r q b e h in
    ap concretize same ∙ answers (resumed s env b) agrees k l n (all_residuals r) f (ap met_limit (sym same) ∙ m)
