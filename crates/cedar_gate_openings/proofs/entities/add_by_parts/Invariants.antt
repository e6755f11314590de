-- What is added so far and what the parts mention that are left is what all parts mention.
use Rattle.std.proofs.Common.{◌≡◌, ◌++◌}
use Rattle.cedar_gate_openings.specs.Mentions.{uids, mentioned_by_these}
use Rattle.cedar_gate_openings.proofs.entities.add_by_parts.Given as goal

abbrev pub invariant-loop-name : goal.invariant-loop-name
invariant-loop-name l = uids l.to.items ++ mentioned_by_these l._name-iterator ≡ uids l.initial.to.items ++ mentioned_by_these l.fn.parts
