-- What is wanted is the next round of a session.
-- Rule: sessions; the slice (docs/RULES.md).
use Rattle.std.specs.Prelude.{◌≡◌, ◌↔◌, ◌++◌, List, Contains, is_some}
use Rattle.std.specs.List.{list_any}
use Rattle.cedar_expr_model.specs.Uid.{Uid, uid_eq}
use Rattle.cedar_gate_wanted.specs.Kept.{IsKept}
use Rattle.cedar_expr_names.specs.declared.entity.EntityUID.{EntityUID}
use Rattle.cedar_gate_wanted.specs.Rows.{uids}
use Rattle.cedar_gate_model.specs.Runs.{with_asked}
use Rattle.cedar_gate_model.specs.Session.{Setup, State, known_now, whole_store, IsWantedList}
use Rattle.cedar_typechecker_model.specs.Slice.{roots, mentioned_by_found}
use Rattle.cedar_gate_wanted.specs.Supplying.{rows_of, keys_in, IsFilled, AreKeys}
use Rattle.cedar_gate_wanted.specs.Wanting.{IsWanting, near_in, rows_in, mentions_of, wanted_in}
use Rattle.cedar_gate_wanted.specs.declared.loading.Loading.{Loading}
use Rattle.std.specs.declared.alloc.Global.{Global}
use Rattle.std.specs.declared.vec.Vec.{Vec}

-- What is loaded is what a state asked for, with what it mentions as far as it is known, and the distances are kept from the roots that
-- are known.
pub record IsLoadedAt (x : Setup) (s : State) (l : Loading) : Type 0 where
  pub asked : (u : Uid) → is_some (rows_in l u) ≡ list_any (uid_eq u) s.asked
  pub mentions : (u : Uid) → mentions_of l u ≡ mentioned_by_found ((known_now x s).store u)
  pub kept : IsKept (roots (known_now x s)) (mentions_of l) x.level (near_in l)

-- The list of what is wanted is that of the next round.
abbrev pub WantedIsNext : Type 0
WantedIsNext = (x : Setup) (s : State) (l : Loading) → IsWanting x.schema l → IsLoadedAt x s l → IsWantedList x s (wanted_in l)

-- the rows have what the store's answers mention
pub record AreAnswers (x : Setup) (ps : List (Uid × Vec EntityUID Global)) : Type 0 where
  pub each : (u : Uid) (r : Vec EntityUID Global) → Contains ps (u, r) → uids r.items ≡ mentioned_by_found (whole_store x u)

-- distances are kept from the same roots
abbrev pub KeepsFrom : Setup → List Uid → List Uid → Loading → Loading → Type 0
KeepsFrom x before after l m = IsKept before (mentions_of l) x.level (near_in l) → IsKept after (mentions_of m) x.level (near_in m)

-- A supply of all that is wanted, with what the store's answers mention, is a round.
abbrev pub SupplyIsRound : Type 0
SupplyIsRound = (x : Setup) (s : State) (l m : Loading) (ps : List (EntityUID × Vec EntityUID Global)) → IsLoadedAt x s l → IsFilled (rows_of ps) (rows_in l) (rows_in m) → AreKeys (wanted_in l) (keys_in ps)
    → AreAnswers x (rows_of ps) → ((r : List Uid) → KeepsFrom x r r l m) → IsLoadedAt x (with_asked s (wanted_in l)) m

-- A state in which more is bound has more roots; what is loaded is as before.
pub record IsBoundMore (x : Setup) (s t : State) : Type 0 where
  pub asked : t.asked ≡ s.asked
  pub more : (u : Uid) → Contains (roots (known_now x s)) u → Contains (roots (known_now x t)) u

-- To add all roots that are known then is to bind.
abbrev pub RootsAreBound : Type 0
RootsAreBound = (x : Setup) (s t : State) (l m : Loading) (rs : List Uid) → IsLoadedAt x s l → IsBoundMore x s t → m.rows ≡ l.rows → ((u : Uid) → Contains rs u ↔ Contains (roots (known_now x t)) u)
    → ((r : List Uid) → KeepsFrom x r (r ++ rs) l m) → IsLoadedAt x t m
