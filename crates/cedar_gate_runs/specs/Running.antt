-- What a run did from a state on.
-- Rule: runs (docs/RULES.md).
use Rattle.std.specs.Prelude.{◌≡◌, List, [], ◌∷◌, ◌++◌, Bool, true, false}
use Rattle.cedar_expr_model.specs.Uid.{Uid}
use Rattle.cedar_gate_model.specs.Runs.{IsRoundNow, RefusesSupply, with_asked}
use Rattle.cedar_gate_model.specs.Session.{Setup, State, NothingIsWanted, Supplied, SupplyFault, SupplyRefusal, supply_number}
use Rattle.cedar_gate_model.specs.Transcript.{Entry, round}
use Rattle.cedar_gate_model.specs.Did.{Loaded}
use Rattle.cedar_gate_runs.specs.declared.stops_with.Stop.{Stop}
use Rattle.cedar_gate_runs.specs.declared.stops_with.Stop.TheVariants.{Memory, Host, Supplying, Binding, Answering}

-- Entries were added, which led to a state, and the session is at it.
pub record Went {E : Type 0} (IsAt : State → E → Type 0) (Leads : List Entry → State → Type 0) (before after : List Entry) (e : E) : Type 0 where
  pub entries : List Entry
  pub state : State
  pub leads : Leads entries state
  pub added : after ≡ before ++ entries
  pub at : IsAt state e

-- a load: a round; or nothing is wanted
abbrev pub DidLoad : Setup → State → Bool → List Entry → State → Type 0
DidLoad x s true es t = (uids : List Uid) × IsRoundNow x s uids × (es ≡ round uids ∷ []) × (t ≡ with_asked s uids)
DidLoad x s false es t = NothingIsWanted x s × (es ≡ []) × (t ≡ s)

-- rounds until nothing is wanted
abbrev pub DidLoadAll : Setup → State → List Entry → State → Type 0
DidLoadAll x s es t = Loaded x s es t × NothingIsWanted x t

-- why what was asked for isn't taken in
abbrev pub StopsSupply : Setup → State → Supplied → Stop → Type 0
StopsSupply x s ps Memory = Unit {0}
StopsSupply x s ps Host = Unit {0}
StopsSupply x s ps (Supplying n) = (f : SupplyRefusal) × (n ≡ supply_number f) × SupplyFault x s ps f
StopsSupply x s ps (Binding n) = ⊥
StopsSupply x s ps (Answering n) = ⊥

-- why a load stops
abbrev pub StopsLoad : Setup → State → Stop → Type 0
StopsLoad x s Memory = Unit {0}
StopsLoad x s Host = Unit {0}
StopsLoad x s (Supplying n) = (f : SupplyRefusal) × (n ≡ supply_number f) × RefusesSupply x s f
StopsLoad x s (Binding n) = ⊥
StopsLoad x s (Answering n) = ⊥

-- Rounds were added, which led to a state where the next one stops.
pub record HaltsLoading (x : Setup) (s : State) (before after : List Entry) (stop : Stop) : Type 0 where
  pub entries : List Entry
  pub state : State
  pub loaded : Loaded x s entries state
  pub added : after ≡ before ++ entries
  pub stops : StopsLoad x state stop
