use Rattle.std.proofs.Common.{Some, refl, sym, ap, ◌∙◌, subst}
use Rattle.cedar_gate_model.specs.Session.{at_start}
use Rattle.cedar_gate_runs.proofs.Asked.{asked_first, keeps_answered}
use Rattle.cedar_gate_runs.proofs.Ended.{host_given, steps_represented, run_answers, run_stops}
use Rattle.cedar_gate_runs.proofs.Proper.{proper_of, fairly_of}
use Rattle.cedar_gate_runs.proofs.Losing.{so_far, rounds_once, stopped_once}
use Rattle.cedar_gate_runs.specs.Lost.{AskedSoFar}
use Rattle.cedar_gate_runs.specs.Transcripts.{entries_of}
use Rattle.cedar_gate_runs.specs.declared.transcript.Transcript.{Transcript}
use Rattle.cedar_gate_runs.proofs.runs.run_session.Goals as goal

-- a run that came to its answer
pub returns-in-Ok-clause-run : goal.returns-in-Ok-clause-run
returns-in-Ok-clause-run g c = λ honest d by.
    let stands = g.E.SessionCalls.stands in
    let t : Transcript = record { entries = c.follow.new.entries; answer = Some c.in-Ok.response } in
    run_answers stands d c.args.session c.args.steps.items by.session t c.in-Ok.response _ refl (ap entries_of c.new-entries.ensures.items)
    (c.in-Ok.ensures.answered honest d at_start by.session.stands (host_given stands g.H.Host.store d c.args.session c.args.steps.items c.args.host.now by) (steps_represented stands d c.args.session c.args.steps.items by.session))

pub returns-in-Ok-clause-promises : goal.returns-in-Ok-clause-promises
returns-in-Ok-clause-promises g c = λ honest d by admitted fair.
    let t : Transcript = record { entries = c.follow.new.entries; answer = Some c.in-Ok.response } in
    let stands = g.E.SessionCalls.stands in
    let values = g.met.E.SessionCalls.makes_values d at_start c.args.session by.session.stands in
    keeps_answered c.runs_keep_the_headline.ensures d (proper_of stands d c.args.session c.args.steps.items by.session admitted) (fairly_of d.functions values fair) t (returns-in-Ok-clause-run g c honest d by)

pub returns-in-Ok-clause-host : goal.returns-in-Ok-clause-host
returns-in-Ok-clause-host g c = record {
  lists = c.in-Ok.ensures.asked (g.H.Host.asked c.args.host.now) (asked_first _ _ (ap entries_of c.new-entries.ensures.items));
  counted = c.in-Ok.ensures.faults;
}

pub returns-in-Ok-clause-asked : goal.returns-in-Ok-clause-asked
returns-in-Ok-clause-asked g c = λ honest d by. record {
  last = tt;
  once = λ admitted fair.
      let k = returns-in-Ok-clause-promises g c honest d by admitted fair in
      rounds_once d (g.H.Host.asked c.args.host.now) _ (entries_of c.follow.new.entries.items) _ k.2 (returns-in-Ok-clause-host g c).lists;
}

-- a run that stopped
pub returns-clause-run : goal.returns-clause-run
returns-clause-run g c = λ honest d by.
    let stands = g.E.SessionCalls.stands in
    c.stopped.ensures.stopped d by.session.opens
    (run_stops stands d c.args.session c.args.steps.items by.session _ _ c.in-Err.stop (ap entries_of c.new-entries.ensures.items)
    (c.in-Err.ensures.stopped honest d at_start by.session.stands (host_given stands g.H.Host.store d c.args.session c.args.steps.items c.args.host.now by) (steps_represented stands d c.args.session c.args.steps.items by.session)))

pub returns-clause-host : goal.returns-clause-host
returns-clause-host g c = record {
  lists = c.stopped.ensures.asked (g.H.Host.asked c.args.host.now) _ (c.in-Err.ensures.beyond (g.H.Host.asked c.args.host.now) (asked_first _ _ (ap entries_of c.new-entries.ensures.items)));
  counted = c.in-Err.ensures.counted ∙ sym (c.stopped.ensures.counted (g.H.Host.faults c.args.host.now));
}

pub returns-clause-asked : goal.returns-clause-asked
returns-clause-asked g c = λ honest d by.
    let stands = g.E.SessionCalls.stands in
    let last = subst (λ es. AskedSoFar d (g.H.Host.asked c.args.host.now) (g.H.Host.asked c.follow.new.host) es) (sym c.stopped.ensures.entries)
    (so_far stands d c.args.session c.args.steps.items by.session _ _ _ _ (ap entries_of c.new-entries.ensures.items)
    (c.in-Err.ensures.last honest d at_start (g.H.Host.asked c.args.host.now) by.session.stands (host_given stands g.H.Host.store d c.args.session c.args.steps.items c.args.host.now by) (steps_represented stands d c.args.session c.args.steps.items by.session) (asked_first _ _ (ap entries_of c.new-entries.ensures.items)))) in
    let values = g.met.E.SessionCalls.makes_values d at_start c.args.session by.session.stands in
    record {
      last = last;
      once = λ admitted fair.
          let proper = proper_of stands d c.args.session c.args.steps.items by.session admitted in
          stopped_once c.moments_keep.ensures.keep c.moments_keep.ensures.wanted d _ _ _ proper (fairly_of d.functions values fair) last;
    }

pub returns-clause-promises : goal.returns-clause-promises
returns-clause-promises g c = λ honest d by admitted fair.
    let stands = g.E.SessionCalls.stands in
    let values = g.met.E.SessionCalls.makes_values d at_start c.args.session by.session.stands in
    let h = (returns-clause-asked g c honest d by).last in
    c.moments_keep.ensures.keep d _ h.state (proper_of stands d c.args.session c.args.steps.items by.session admitted) (fairly_of d.functions values fair) h.came

pub returns-clause-no_answer : goal.returns-clause-no_answer
returns-clause-no_answer g c = c.stopped.ensures.no_answer
