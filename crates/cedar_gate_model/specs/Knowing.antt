-- What the completions of a session's state know.
-- Rule: completions; what is known (docs/RULES.md).
use Rattle.std.specs.Prelude.{None}
use Rattle.cedar_expr_model.specs.Uid.{Uid}
use Rattle.cedar_store_model.specs.OfLaws.Extends.{KeepsFound, Extends}
use Rattle.cedar_store_model.specs.World.{World}
use Rattle.cedar_gate_model.specs.RunsAnswer.{Course, session_of, IsAdmitted, IsOpened}
use Rattle.cedar_gate_model.specs.Session.{Setup, State, known_now, CompletesNow}

-- The declared actions, the loaded entities and the known absences are a partial store, which every completion of the state extends: what
-- is held is held there as it is, and what is known to be missing is missing there.
abbrev pub CompletionsKeepTheStore : Type 0
CompletionsKeepTheStore = (x : Setup) (s : State) (w : World) → CompletesNow x s w → (u : Uid) → KeepsFound ((known_now x s).store u) (w.store u)

-- the world without slots
abbrev pub without_slots : World → World
without_slots w = record w { slots = λ z. None }

-- So is all that is known in the session of a course: every completion knows it, and perhaps more.
abbrev pub CompletionsKnowMore : Type 0
CompletionsKnowMore = (c : Course) (s : State) (w : World) → IsAdmitted c → IsOpened (session_of c) s → CompletesNow (session_of c) s w → Extends (known_now (session_of c) s) (without_slots w)
