-- The ids so far and those of the pairs that are left are the ids of all pairs.
use Rattle.std.proofs.Common.{◌≡◌, map, ◌++◌}
use Rattle.std.specs.List.{zip}
use Rattle.std.specs.Slice.Iter.{iter_rest}
use Rattle.std.specs.Iterator.Adapters.{zip_first, zip_second}
use Rattle.cedar_store_parts.specs.Parts.{id_text}
use Rattle.cedar_gate_sessions.specs.Bounds.{picked_ids}
use Rattle.cedar_gate_sessions.specs.Verdicts.{may_by}
use Rattle.cedar_gate_sessions.proofs.bounds.may_ids.Given as goal

abbrev pub invariant-loop-policy : goal.invariant-loop-policy
invariant-loop-policy l =
    map id_text l.ids.items ++ picked_ids (may_by l.fn.forbids)
    (zip (iter_rest (zip_first l.policy-iterator)) (iter_rest (zip_second l.policy-iterator)))
    ≡ picked_ids (may_by l.fn.forbids) (zip l.policies l.verdicts)
