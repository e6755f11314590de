use Rattle.std.proofs.Common.{refl}
use Rattle.std.proofs.lemmas.Slice.Zip.{either_empty_from_Zip}
use Rattle.cedar_gate_sessions.specs.Bounds.{picked_ids}
use Rattle.cedar_gate_sessions.specs.Verdicts.{must_by}
use Rattle.cedar_gate_sessions.proofs.Marked.{is_all}
use Rattle.cedar_gate_sessions.proofs.bounds.must_ids.Goals as goal

pub returns : goal.returns
returns c =
    is_all (picked_ids (must_by c.args.forbids c.args.open_forbids)) _ _ _ _ refl c.loop-policy.invariant
    (either_empty_from_Zip c.loop-policy.policy-iterator c.next.new.self c.next.result c.in-None.is c.next.ensures.steps)
