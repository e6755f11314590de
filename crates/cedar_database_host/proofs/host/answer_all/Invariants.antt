-- The answers so far are for the uids so far, their entities have these uids, and they are those of the rows, which stay.
use Rattle.std.proofs.Common.{◌≡◌, IsTrue, map, take}
use Rattle.cedar_expr_names.specs.Views.{uid_of}
use Rattle.cedar_gate_runs.specs.Hosts.{answered_of, answer_from}
use Rattle.sqlite.specs.Held.{state}
use Rattle.sqlite.specs.State.{HasCleanDisk}
use Rattle.cedar_database_host.specs.Hosts.{answered_uid, entity_of_answer}
use Rattle.cedar_database_host.specs.Lookup.{IsLookup, IsSettled, LooksOnly}
use Rattle.cedar_database_host.specs.Table.{entities_of}
use Rattle.cedar_database_host.proofs.host.answer_all.Given as goal

abbrev pub invariant-loop-uid : goal.invariant-loop-uid
invariant-loop-uid g l =
    let first = state g.S.Store l.fn.connection in
    let now = state g.S.Store l.connection in
    record {
      uids : map answered_uid l.answers.items ≡ map uid_of (take l.uid-index l.uids);
      entities : map entity_of_answer l.answers.items ≡ map uid_of (take l.uid-index l.uids);
      looks : LooksOnly first now;
      shown : HasCleanDisk now → IsTrue now.is_open → IsSettled first → IsLookup first.now → g.T.EntityReader.agrees l.reader
          → map answered_of l.answers.items ≡ map (answer_from (entities_of (g.T.EntityReader.functions l.reader) first.now)) (map uid_of (take l.uid-index l.uids));
    }
