-- Rounds come to an end: the one that has the level's number is none.
use Rattle.std.proofs.Common.{◌≡◌, ◌<◌, ◌+◌, ℕ, suc, List, subst, arith}
use Rattle.cedar_expr_model.specs.Uid.{Uid}
use Rattle.cedar_gate_model.specs.Runs.{IsRoundNow, with_asked}
use Rattle.cedar_gate_model.specs.Session.{Setup, State, world_now}
use Rattle.cedar_gate_model.proofs.Runs.Loading.{Settled, round_is_below, settles_more}

-- All that is nearer than this is loaded.
abbrev pub AreSettled : Setup → State → ℕ → Type 0
AreSettled x s n = Settled x.schema (world_now x s) s.asked n

pub settled_first : (x : Setup) (s : State) → AreSettled x s 0
settled_first x s = λ u k. absurd k

pub below : (x : Setup) (s : State) (uids : List Uid) (n : ℕ) → IsRoundNow x s uids → AreSettled x s n → n < x.level
below x s uids n r settled = round_is_below x.schema (world_now x s) x.level s.asked uids n r.some_wanted r.wanted.exact settled

pub settled_more : (x : Setup) (s : State) (uids : List Uid) (n : ℕ) → IsRoundNow x s uids → AreSettled x s n → AreSettled x (with_asked s uids) (n + 1)
settled_more x s uids n r settled =
    let e : suc n ≡ n + 1 = omega arith in
    subst (AreSettled x (with_asked s uids)) e (settles_more x.schema (world_now x s) x.level s.asked uids n r.wanted.exact settled (below x s uids n r settled))
