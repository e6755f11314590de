-- Runs over a store that answers for every uid: what they do step by step, and how they end.
-- Rule: runs; legal transcript (docs/RULES.md).
use Rattle.std.specs.Prelude.{◌≡◌, ◌≢◌, List, [], ◌∷◌, ◌++◌, map, Option, Some, None, option_map}
use Rattle.std.proofs.Common.{◌⊎◌}
use Rattle.cedar_expr_model.specs.Name.{Text}
use Rattle.cedar_expr_model.specs.Uid.{Uid}
use Rattle.cedar_expr_model.specs.Made.{Made}
use Rattle.cedar_store_model.specs.World.{World, Found}
use Rattle.cedar_store_model.specs.Policy.{Policy}
use Rattle.cedar_store_model.specs.Answer.{Decision, Answer, answer_of, decision_of}
use Rattle.cedar_evaluator_model.specs.Known.{known_found}
use Rattle.cedar_evaluator_model.specs.Members.{decision_in_session}
use Rattle.cedar_evaluator_model.specs.Response.{response_of}
use Rattle.cedar_evaluator_model.specs.OfLaws.WellMade.{IsFoundMadeWell, IsContextMadeWell}
use Rattle.cedar_gate_model.specs.Session.{Setup, State, at_start, scope_now, known_now, world_now, MeetsLimit, CompletesNow, IsWantedList, NothingIsWanted, with_bound, OpenFault, OpenRefusal, BindFault, BindRefusal, Supplied, SupplyFault, SupplyRefusal, AnswerFault, AnswerRefusal}
use Rattle.cedar_gate_model.specs.Transcript.{Step, load, bind_name, decide, Entry, round, bound, decided}
use Rattle.cedar_gate_model.specs.Owed.{IsForced}

-- How a run ends: with the answer, or where a call refuses.
pub data End : Type 0 where
  answered : Answer → End
  opening_refused : OpenRefusal → End
  supply_refused : SupplyRefusal → End
  binding_refused : BindRefusal → End
  answer_refused : AnswerRefusal → End

-- what the store supplies for these
abbrev pub supplied_by : Setup → List Uid → Supplied
supplied_by x uids = map (λ u. (u, option_map (λ e. (u, e)) (x.store u))) uids

-- A round: these are wanted, at least one, in order, and what the store supplies is taken.
pub record IsRoundNow (x : Setup) (s : State) (uids : List Uid) : Type 0 where
  pub some_wanted : uids ≢ []
  pub wanted : IsWantedList x s uids
  pub taken : (f : SupplyRefusal) → SupplyFault x s (supplied_by x uids) f → ⊥

-- the state after a round
abbrev pub with_asked : State → List Uid → State
with_asked s uids = record s { asked = s.asked ++ uids }

-- a round whose supply is refused
abbrev pub RefusesSupply : Setup → State → SupplyRefusal → Type 0
RefusesSupply x s f = (uids : List Uid) × (uids ≢ []) × IsWantedList x s uids × SupplyFault x s (supplied_by x uids) f

-- What a decision may be: one that is given is the decision of every completion of what is known; and one that what is known forces
-- is given, but where a policy meets the limit.
abbrev pub MayDecide : Setup → List Policy → State → Option Decision → Type 0
MayDecide x ps s None = MeetsLimit x ps s ⊎ ((d : Decision) → IsForced (known_now x s) ps d → ⊥)
MayDecide x ps s (Some d) = (w : World) → CompletesNow x s w → d ≡ decision_of w ps

-- What evaluating stands on: the store is what is known of it, and its values and those of the context are as they are written.
pub record IsKnownBy (x : Setup) (s : State) (store : Uid → Found Made) : Type 0 where
  pub known : (u : Uid) → known_found (store u) ≡ (known_now x s).store u
  pub well : (u : Uid) → IsFoundMadeWell x.functions.table (store u)
  pub context : IsContextMadeWell x.functions.table x.start.context

-- The decision is that of evaluating the policies in part, by what is known.
abbrev pub DecidesInPart : Setup → List Policy → State → Option Decision → Type 0
DecidesInPart x ps s d = (store : Uid → Found Made) × IsKnownBy x s store × (d ≡ decision_in_session (response_of (scope_now x s store) x.limit ps))

-- After the last step: rounds as long as something is wanted, and then the answer.
abbrev pub Finishes : Setup → List Policy → State → List Entry → End → Type 0
Finishes x ps s (round uids ∷ es) end = IsRoundNow x s uids × Finishes x ps (with_asked s uids) es end
Finishes x ps s [] (answered a) = NothingIsWanted x s × ((f : AnswerRefusal) → AnswerFault x s f → ⊥) × (a ≡ answer_of (world_now x s) ps)
Finishes x ps s [] (answer_refused f) = NothingIsWanted x s × AnswerFault x s f
Finishes x ps s [] (supply_refused f) = RefusesSupply x s f
Finishes x ps s es end = ⊥

-- A load where something is wanted: a round and what comes after it, or a supply that is refused.
abbrev pub Loads : Setup → State → (State → List Entry → Type 0) → List Entry → End → Type 0
Loads x s next (round uids ∷ es) end = IsRoundNow x s uids × next (with_asked s uids) es
Loads x s next [] (supply_refused f) = RefusesSupply x s f
Loads x s next es end = ⊥

-- A binding and what comes after it, or one that is refused.
abbrev pub Binds : Setup → State → Text → Made → (List Entry → Type 0) → List Entry → End → Type 0
Binds x s n m next (bound k ∷ es) end = (k ≡ n) × ((f : BindRefusal) → BindFault x s n m f → ⊥) × next es
Binds x s n m next [] (binding_refused f) = BindFault x s n m f
Binds x s n m next es end = ⊥

-- A decision, and what comes after it.
abbrev pub DecidesNow : (Option Decision → Type 0) → (List Entry → Type 0) → List Entry → Type 0
DecidesNow may next (decided d ∷ es) = may d × next es
DecidesNow may next es = ⊥

-- What the steps do, one after the other. `may` tells what the decision may be in a state.
abbrev pub Follows : (State → Option Decision → Type 0) → Setup → List Policy → State → List Step → List Entry → End → Type 0
Follows may x ps s [] es end = Finishes x ps s es end
Follows may x ps s (load ∷ steps) es end = (NothingIsWanted x s × Follows may x ps s steps es end) ⊎ Loads x s (λ t fs. Follows may x ps t steps fs end) es end
Follows may x ps s (bind_name n m ∷ steps) es end = Binds x s n m (λ fs. Follows may x ps (with_bound s n m) steps fs end) es end
Follows may x ps s (decide ∷ steps) es end = DecidesNow (may s) (λ fs. Follows may x ps s steps fs end) es

-- A run: it doesn't open, or it follows its steps to an end.
abbrev pub Runs : (State → Option Decision → Type 0) → Setup → List Policy → List Step → List Entry → End → Type 0
Runs may x ps steps es (opening_refused f) = (es ≡ []) × OpenFault x.start f
Runs may x ps steps es end = ((f : OpenRefusal) → OpenFault x.start f → ⊥) × Follows may x ps at_start steps es end
