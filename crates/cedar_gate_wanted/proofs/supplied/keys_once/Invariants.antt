-- The uids so far are the keys, and none stands twice.
use Rattle.std.proofs.Common.{◌≡◌, None, Contains, take}
use Rattle.std.specs.Prelude.{◌↔◌, IsSome}
use Rattle.cedar_expr_model.specs.Uid.{Uid, uid_eq}
use Rattle.cedar_expr_model.specs.Repeats.{repeated}
use Rattle.cedar_gate_wanted.specs.Rows.{found_at}
use Rattle.cedar_gate_wanted.specs.Supplying.{keys_in}
use Rattle.cedar_gate_wanted.proofs.supplied.keys_once.Given as goal

abbrev pub invariant-loop-uid : goal.invariant-loop-uid
invariant-loop-uid l = record {
  once : repeated uid_eq (keys_in (take l.uid-index l.supplied)) ≡ None;
  has : (u : Uid) → IsSome (found_at l.keys u) ↔ Contains (keys_in (take l.uid-index l.supplied)) u;
}
