-- The parts so far.
use Rattle.std.proofs.Common.{◌≡◌, ◌++◌, map}
use Rattle.std.specs.Vec.Iter.{into_iter_items}
use Rattle.cedar_gate_wanted.specs.Rows.{uids}
use Rattle.cedar_gate_sessions.specs.Entities.{supplied_entities, missing_uids, row_pair, mentions_pair}
use Rattle.cedar_gate_sessions.proofs.supplied.parted.Given as goal

abbrev pub invariant-loop-uid : goal.invariant-loop-uid
invariant-loop-uid l = record {
  goes : l.fn.supplied.items ≡ l.yielded ++ into_iter_items l.uid-iterator;
  rows : map row_pair l.parts.rows.items ≡ map mentions_pair l.yielded;
  entities : l.parts.entities.items ≡ supplied_entities l.yielded;
  missing : uids l.parts.missing.items ≡ missing_uids l.yielded;
}
