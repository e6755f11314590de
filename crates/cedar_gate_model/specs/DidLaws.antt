-- Laws of what steps did.
-- Rule: runs (docs/RULES.md).
use Rattle.std.specs.Prelude.{List, [], ◌∷◌, ◌++◌}
use Rattle.cedar_store_model.specs.Policy.{Policy}
use Rattle.cedar_gate_model.specs.Runs.{End, Finishes, Follows, IsRoundNow, DecidesInPart, with_asked}
use Rattle.cedar_gate_model.specs.Session.{Setup, State}
use Rattle.cedar_gate_model.specs.Transcript.{Step, Entry, round}
use Rattle.cedar_expr_model.specs.Uid.{Uid}
use Rattle.cedar_gate_model.specs.Did.{Did, Loaded}

abbrev pub DidNothing : Type 0
DidNothing = (x : Setup) (ps : List Policy) (s : State) → Did (DecidesInPart x ps) x s [] [] s

abbrev pub DidMore : Type 0
DidMore = (x : Setup) (ps : List Policy) (s t u : State) (done : List Step) (step : Step) (es fs : List Entry) → Did (DecidesInPart x ps) x s done es t → Did (DecidesInPart x ps) x t (step ∷ []) fs u
    → Did (DecidesInPart x ps) x s (done ++ step ∷ []) (es ++ fs) u

abbrev pub DidFollows : Type 0
DidFollows = (x : Setup) (ps : List Policy) (s t : State) (done rest : List Step) (es fs : List Entry) (end : End) → Did (DecidesInPart x ps) x s done es t → Follows (DecidesInPart x ps) x ps t rest fs end
    → Follows (DecidesInPart x ps) x ps s (done ++ rest) (es ++ fs) end

abbrev pub LoadedNothing : Type 0
LoadedNothing = (x : Setup) (s : State) → Loaded x s [] s

abbrev pub LoadedMore : Type 0
LoadedMore = (x : Setup) (s t : State) (es : List Entry) (uids : List Uid) → Loaded x s es t → IsRoundNow x t uids → Loaded x s (es ++ round uids ∷ []) (with_asked t uids)

abbrev pub LoadedFinishes : Type 0
LoadedFinishes = (x : Setup) (ps : List Policy) (s t : State) (es : List Entry) (end : End) → Loaded x s es t → Finishes x ps t [] end → Finishes x ps s es end
