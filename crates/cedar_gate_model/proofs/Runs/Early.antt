-- What a session's decision keeps: it is that of every completion, and one is given where it is forced or owed.
use Rattle.std.proofs.Common.{◌≡◌, Option, Some, None, ⊎_elim, refl, subst}
use Rattle.std.specs.Prelude.{Contains, IsSome}
use Rattle.cedar_store_model.specs.Answer.{Decision}
use Rattle.cedar_gate_model.specs.Early.{AnsweredConform, KeepsDecision}
use Rattle.cedar_gate_model.specs.Owed.{IsForced}
use Rattle.cedar_gate_model.specs.Runs.{MayDecide, DecidesInPart}
use Rattle.cedar_gate_model.specs.RunsAnswer.{Course, session_of, IsAdmitted, MakeFairly, IsOpened}
use Rattle.cedar_gate_model.specs.Session.{Setup, State, known_now, MeetsLimit}
use Rattle.cedar_gate_model.proofs.Runs.Completing.{Stands}
use Rattle.cedar_gate_model.proofs.Runs.Forcing.{forced_decisions_are_given}
use Rattle.cedar_gate_model.proofs.Runs.InPart.{may_be_given}
use Rattle.cedar_gate_model.proofs.Runs.Names.{stands}
use Rattle.cedar_gate_model.proofs.Runs.Owing.{owed}
use Rattle.cedar_gate_model.proofs.Runs.Scoped.{evaluated_decisions_hold}

-- a session that opened and bound its names, and what it was answered
stands_now : (x : Setup) (s : State) → IsOpened x s → AnsweredConform x s → Stands x s
stands_now x s start conform =
    let bare = stands x start.opened s start.bound in
    record { values = bare.values; each = bare.each; conform = conform }

forced_is_given : (c : Course) (s : State) (d : Option Decision) → MayDecide (session_of c) c.submission.policies s d
    → (given : Decision) → IsForced (known_now (session_of c) s) c.submission.policies given → (MeetsLimit (session_of c) c.submission.policies s → ⊥) → IsSome d
forced_is_given c s (Some d) may given h free = refl
forced_is_given c s None may given h free = absurd (⊎_elim free (λ k. k given h) may)

pub decisions_kept : (c : Course) (s : State) (d : Option Decision) → IsAdmitted c → MakeFairly c.functions → IsOpened (session_of c) s → AnsweredConform (session_of c) s
    → DecidesInPart (session_of c) c.submission.policies s d → KeepsDecision c s d
decisions_kept c s d admitted fair start conform p =
    let may : MayDecide (session_of c) c.submission.policies s d =
    may_be_given (λ k r store q same. forced_decisions_are_given k r store q same) evaluated_decisions_hold c s p.0 admitted fair start p.1 d p.2 in
    record {
      hold = λ given is. subst (MayDecide (session_of c) c.submission.policies s) is may;
      forced = forced_is_given c s d may;
      owed = λ ready. owed c admitted s (stands_now (session_of c) s start conform) start.opened ready d may;
    }
