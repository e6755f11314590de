use Rattle.std.proofs.Common.{◌≡◌, map, take, ◌++◌, ◌∷◌, [], ◌+◌, sym, subst}
use Rattle.cedar_expr_names.specs.Views.{uid_of}
use Rattle.cedar_gate_runs.specs.Hosts.{answered_of, answer_from}
use Rattle.sqlite.specs.Held.{state}
use Rattle.cedar_database_host.specs.Hosts.{answered_uid, entity_of_answer}
use Rattle.cedar_database_host.specs.Lookup.{IsLookup}
use Rattle.cedar_database_host.specs.Table.{entities_of}
use Rattle.cedar_database_host.proofs.AnswerLemmas.{looks_on}
use Rattle.cedar_database_host.proofs.LoopLemmas.{pushed_ok, one_more, known_more, next_uids, clean_between, open_between, same_between}
use Rattle.cedar_database_host.proofs.host.answer_all.Goals as goal

pub returns-in_err-answer-clause-looks : goal.returns-in_err-answer-clause-looks
returns-in_err-answer-clause-looks g c = looks_on _ _ _ c.loop-uid.invariant.looks c.answer_one.ensures.looks

pub returns-in_err-map_err-clause-looks : goal.returns-in_err-map_err-clause-looks
returns-in_err-map_err-clause-looks g c = looks_on _ _ _ c.loop-uid.invariant.looks c.answer_one.ensures.looks

pub loop-uid-preserved : goal.loop-uid-preserved
loop-uid-preserved g c =
    let xs = c.loop-uid.answers.items in
    let ys = c.push.new.self.items in
    let us = c.args.uids.now in
    let i = c.loop-uid.uid-index in
    let u = c.uid-item.result in
    let before = c.loop-uid.invariant in
    let here = c.in_ok-answer.ensures in
    let first = state g.S.Store c.args.connection.now in
    let mid = state g.S.Store c.loop-uid.connection in
    let last = state g.S.Store c.answer_one.new.connection in
    let x = g.T.EntityReader.functions c.args.reader.now in
    let more : ys ≡ xs ++ c.in_ok-answer.answer ∷ [] = pushed_ok xs ys c.in_ok-answer.answer c.push.result c.map_err-in-loop-uid.result c.in_ok-map_err.field-0 c.push.ensures.items c.in_ok-map_err.was c.map_err-in-loop-uid.ensures.variant in
    let further : map uid_of (take (i + 1) us) ≡ map uid_of (take i us) ++ uid_of u ∷ [] = next_uids us i u c.loop-uid-test.true c.uid-item.is in
    record {
      uids = known_more answered_uid xs ys c.in_ok-answer.answer us i u c.loop-uid-test.true c.uid-item.is more before.uids here.asked;
      entities = known_more entity_of_answer xs ys c.in_ok-answer.answer us i u c.loop-uid-test.true c.uid-item.is more before.entities here.entity;
      looks = looks_on first mid last before.looks here.looks;
      shown = λ clean is_open settled lookup agrees.
          let was_clean = clean_between first mid last before.looks here.looks clean is_open settled in
          let was_open = open_between first mid last before.looks here.looks clean is_open settled in
          let same = same_between first mid last before.looks here.looks clean is_open settled in
          one_more answered_of (answer_from (entities_of x first.now)) xs ys c.in_ok-answer.answer (map uid_of (take i us)) (map uid_of (take (i + 1) us)) (uid_of u) more further
          (before.shown was_clean was_open settled lookup agrees)
          (subst (λ d. answered_of c.in_ok-answer.answer ≡ answer_from (entities_of x d) (uid_of u)) same (here.answer clean (subst IsLookup (sym same) lookup) agrees));
    }
