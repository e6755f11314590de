-- By policies in another order an answered run is a run too.
use Rattle.std.proofs.Common.{◌≡◌, ◌∙◌, List, [], ◌∷◌, Option, Some, None, inl, inr, ⊎_elim, refl, sym}
use Rattle.std.specs.Prelude.{Contains}
use Rattle.std.specs.List.{filter_map}
use Rattle.cedar_expr_model.specs.Name.{Text}
use Rattle.cedar_expr_model.specs.Made.{Made}
use Rattle.cedar_store_model.specs.World.{World}
use Rattle.cedar_store_model.specs.Policy.{Policy, Effect}
use Rattle.cedar_store_model.specs.Answer.{Answer, Decision, allow, deny, answer_of}
use Rattle.cedar_store_model.specs.AnswerLaws.{SameMembers}
use Rattle.cedar_store_model.proofs.Reports.{order_is_free}
use Rattle.cedar_typechecker_model.proofs.Moved.Schemas.{any_moved}
use Rattle.cedar_evaluator_model.specs.Members.{met_limit, is_limit}
use Rattle.cedar_evaluator_model.specs.Response.{response_of, ResponseError}
use Rattle.cedar_evaluator_model.specs.Scope.{Scope}
use Rattle.cedar_evaluator_model.proofs.Residuals.Groups.{kept_has, kept_from}
use Rattle.cedar_gate_model.specs.Owed.{SomeTrue, NoneTrue, IsForced}
use Rattle.cedar_gate_model.specs.RunLaws.{bindings_in, last_state}
use Rattle.cedar_gate_model.specs.Runs.{answered, MayDecide, Finishes, Follows, Loads, with_asked}
use Rattle.cedar_gate_model.specs.Session.{Setup, State, known_now, scope_now, world_now, with_bound}
use Rattle.cedar_gate_model.specs.Transcript.{Step, load, bind_name, decide, Entry, round, bound, decided}

kept_into : {A B : Type 0} (f : A → Option B) (ps qs : List A) → ((p : A) → Contains ps p → Contains qs p) → (b : B) → Contains (filter_map f ps) b → Contains (filter_map f qs) b
kept_into f ps qs into b k = let r = kept_from f ps b k in kept_has f qs r.0 b (into r.0 r.1) r.2

module _ (ps qs : List Policy) (same : SameMembers ps qs) where
  limit_same : (s : Scope) (n : _) → met_limit (response_of s n ps) ≡ met_limit (response_of s n qs)
  limit_same s n = any_moved (λ (e : ResponseError). is_limit e.cause) (response_of s n ps).errors (response_of s n qs).errors (kept_into _ ps qs (λ p. (same p).0)) (kept_into _ qs ps (λ p. (same p).1))

  some_back : (k : World) (e : Effect) → SomeTrue k qs e → SomeTrue k ps e
  some_back k e h = (h.0, (same h.0).1 h.1, h.2, h.3)

  none_back : (k : World) (e : Effect) → NoneTrue k qs e → NoneTrue k ps e
  none_back k e h p c = h p ((same p).0 c)

  forced_back : (k : World) (d : Decision) → IsForced k qs d → IsForced k ps d
  forced_back k allow h = (some_back k _ h.0, none_back k _ h.1)
  forced_back k deny h = ⊎_elim (λ a. inl (some_back k _ a)) (λ a. inr (none_back k _ a)) h

  module _ (x : Setup) where
    decides_so : (s : State) (d : Option Decision) → MayDecide x ps s d → MayDecide x qs s d
    decides_so s None m = ⊎_elim (λ a. inl (a.0, a.1, sym (limit_same (scope_now x s a.0) x.limit) ∙ a.2)) (λ a. inr (λ d k. a d (forced_back (known_now x s) d k))) m
    decides_so s (Some d) m = λ w c. m w c ∙ (order_is_free w ps qs same).0

    -- the answer at the end
    abbrev At : State → Answer
    At s = answer_of (world_now x s) qs

    finishes_so : (s : State) (es : List Entry) (a : Answer) → Finishes x ps s es (answered a) → Finishes x qs s es (answered (At (last_state s [] es)))
    finishes_so s [] a f = (f.0, f.1, refl)
    finishes_so s (round us ∷ es) a f = (f.0, finishes_so (with_asked s us) es a f.1)
    finishes_so s (bound n ∷ es) a f = absurd f
    finishes_so s (decided d ∷ es) a f = absurd f

    loads_so : (s : State) (bs : List (Text × Made)) (a : Answer) (next : State → List Entry → Type 0) (then : Answer → State → List Entry → Type 0)
        → ((t : State) (es : List Entry) → next t es → then (At (last_state t bs es)) t es)
        → (es : List Entry) → Loads x s next es (answered a) → Loads x s (then (At (last_state s bs es))) es (answered (At (last_state s bs es)))
    loads_so s bs a next then goes [] p = absurd p
    loads_so s bs a next then goes (round us ∷ es) p = (p.0, goes (with_asked s us) es p.1)
    loads_so s bs a next then goes (bound n ∷ es) p = absurd p
    loads_so s bs a next then goes (decided d ∷ es) p = absurd p

    pub follows_so : (s : State) (steps : List Step) (es : List Entry) (a : Answer) → Follows (MayDecide x ps) x ps s steps es (answered a)
        → Follows (MayDecide x qs) x qs s steps es (answered (At (last_state s (bindings_in steps) es)))
    follows_so s [] es a f = finishes_so s es a f
    follows_so s (load ∷ steps) es a f =
        ⊎_elim (λ p. inl (p.0, follows_so s steps es a p.1))
        (λ p. inr (loads_so s (bindings_in steps) a (λ t fs. Follows (MayDecide x ps) x ps t steps fs (answered a)) (λ b t fs. Follows (MayDecide x qs) x qs t steps fs (answered b)) (λ t fs g. follows_so t steps fs a g) es p)) f
    follows_so s (bind_name n m ∷ steps) (bound k ∷ es) a f = (f.0, f.1, follows_so (with_bound s n m) steps es a f.2)
    follows_so s (bind_name n m ∷ steps) [] a f = absurd f
    follows_so s (bind_name n m ∷ steps) (round us ∷ es) a f = absurd f
    follows_so s (bind_name n m ∷ steps) (decided d ∷ es) a f = absurd f
    follows_so s (decide ∷ steps) (decided d ∷ es) a f = (decides_so s d f.0, follows_so s steps es a f.1)
    follows_so s (decide ∷ steps) [] a f = absurd f
    follows_so s (decide ∷ steps) (round us ∷ es) a f = absurd f
    follows_so s (decide ∷ steps) (bound n ∷ es) a f = absurd f
