use Rattle.std.proofs.Common.{rules, ◌≡◌, ◌<◌, [], true, false, ap, refl, ◌∙◌, subst, arith}
use Rattle.cedar_gate_model.specs.RunsAnswer.{session_of}
use Rattle.cedar_gate_runs.proofs.Asked.{beyond_on}
use Rattle.cedar_gate_runs.proofs.Hosted.{host_loaded, host_with, stays_on}
use Rattle.cedar_gate_runs.proofs.Looped.{loading_none, loading_more, loading_ends, loading_halts, loading_few}
use Rattle.cedar_gate_runs.proofs.Pushed.{handed}
use Rattle.cedar_gate_runs.specs.Running.{Went, DidLoad}
use Rattle.cedar_gate_runs.specs.Transcripts.{entries_of}
use Rattle.cedar_gate_runs.proofs.Losing.{on_err, loading_last}
use Rattle.cedar_gate_runs.specs.Counting.{count_after}
use Rattle.cedar_gate_runs.proofs.loading.load_all.Goals as goal

pub loop-round-init : goal.loop-round-init
loop-round-init g c = record {
  faults = refl;
  asked = λ first h. h;
  host = λ honest. (honest, refl);
  loading = λ honest d s h i. loading_none (g.E.SessionCalls.stands d) (session_of d) s _ _ h;
}

pub loop-round-preserved : goal.loop-round-preserved
loop-round-preserved g c =
    let i = c.loop-round.invariant in
    let more : c.in_ok-load.field-0 ≡ true = search rules in
    record {
      faults = c.in_ok-load.ensures.faults ∙ i.faults;
      asked = λ first h. c.in_ok-load.ensures.asked first (i.asked first h);
      host = stays_on g.H.Host.honest g.H.Host.store _ _ _ i.host c.in_ok-load.ensures.host;
      loading = λ honest d s h k.
          let before = (c.in_ok-load.ensures.host honest).0 in
          let l = i.loading before d s h k in
          let w = c.in_ok-load.ensures.did honest d l.went.state l.went.at (host_loaded g.H.Host.store d s l.went.state c.loop-round.host l.went.entries l.went.leads (host_with g.H.Host.store d s [] _ _ (i.host before).1 k)) in
          loading_more (g.E.SessionCalls.stands d) (session_of d) s c.loop-round._round _ _ _ _ _ l
          (subst (λ b. Went (g.E.SessionCalls.stands d) (DidLoad (session_of d) l.went.state b) (entries_of c.loop-round.entries.items) (entries_of c.load.new.entries.items) c.load.new.session) more w);
    }

pub returns-in_err-load-clause-host : goal.returns-in_err-load-clause-host
returns-in_err-load-clause-host g c = stays_on g.H.Host.honest g.H.Host.store _ _ _ c.loop-round.invariant.host c.in_err-load.ensures.host

pub returns-in_err-load-clause-stopped : goal.returns-in_err-load-clause-stopped
returns-in_err-load-clause-stopped g c = handed _ c.in_err-load.field-0.0 c.from_residual.result c.from_residual.ensures.1
    (λ honest d s h k.
    let i = c.loop-round.invariant in
    let before = (c.in_err-load.ensures.host honest).0 in
    let l = i.loading before d s h k in
    loading_halts (g.E.SessionCalls.stands d) (session_of d) s c.loop-round._round _ _ _ _ c.in_err-load.field-0.0 l c.in_err-load.ensures.unchanged (c.in_err-load.ensures.stopped honest d l.went.state l.went.at (host_loaded g.H.Host.store d s l.went.state c.loop-round.host l.went.entries l.went.leads (host_with g.H.Host.store d s [] _ _ (i.host before).1 k))))

pub returns-then-not-branch-clause-host : goal.returns-then-not-branch-clause-host
returns-then-not-branch-clause-host g c = stays_on g.H.Host.honest g.H.Host.store _ _ _ c.loop-round.invariant.host c.in_ok-load.ensures.host

pub returns-then-not-branch-clause-faults : goal.returns-then-not-branch-clause-faults
returns-then-not-branch-clause-faults g c = c.in_ok-load.ensures.faults ∙ c.loop-round.invariant.faults

pub returns-then-not-branch-clause-did : goal.returns-then-not-branch-clause-did
returns-then-not-branch-clause-did g c =
    let i = c.loop-round.invariant in
    let none : c.in_ok-load.field-0 ≡ false = search rules in
    λ honest d s h k.
    let before = (c.in_ok-load.ensures.host honest).0 in
    let l = i.loading before d s h k in
    let w = c.in_ok-load.ensures.did honest d l.went.state l.went.at (host_loaded g.H.Host.store d s l.went.state c.loop-round.host l.went.entries l.went.leads (host_with g.H.Host.store d s [] _ _ (i.host before).1 k)) in
    loading_ends (g.E.SessionCalls.stands d) (session_of d) s c.loop-round._round _ _ _ _ _ l
    (subst (λ b. Went (g.E.SessionCalls.stands d) (DidLoad (session_of d) l.went.state b) (entries_of c.loop-round.entries.items) (entries_of c.load.new.entries.items) c.load.new.session) none w)

pub returns-clause-host : goal.returns-clause-host
returns-clause-host g c = c.loop-round.invariant.host

pub returns-clause-faults : goal.returns-clause-faults
returns-clause-faults g c = c.loop-round.invariant.faults

pub returns-clause-did : goal.returns-clause-did
returns-clause-did g c = λ honest d s h k.
    let i = c.loop-round.invariant in
    let at : d.submission.level ≡ c.level.result = c.level.ensures d s h in
    let high : d.submission.level < c.loop-round._round = omega (arith, at, c.loop-round-test.false, c.from-round-end.ensures) in
    loading_few (g.E.SessionCalls.stands d) (session_of d) s c.loop-round._round _ _ _ (i.loading honest d s h k) high

pub returns-in_err-load-clause-beyond : goal.returns-in_err-load-clause-beyond
returns-in_err-load-clause-beyond g c = handed _ c.in_err-load.field-0.0 c.from_residual.result c.from_residual.ensures.1
    (λ first h. beyond_on first _ _ _ _ c.in_err-load.field-0.0 (c.loop-round.invariant.asked first h) c.in_err-load.ensures.unchanged c.in_err-load.ensures.beyond)

pub returns-then-not-branch-clause-asked : goal.returns-then-not-branch-clause-asked
returns-then-not-branch-clause-asked g c = λ first h. c.in_ok-load.ensures.asked first (c.loop-round.invariant.asked first h)

pub returns-clause-asked : goal.returns-clause-asked
returns-clause-asked g c = c.loop-round.invariant.asked

pub returns-in_err-load-clause-counted : goal.returns-in_err-load-clause-counted
returns-in_err-load-clause-counted g c =
    let stop = c.in_err-load.field-0.0 in
    handed _ stop c.from_residual.result c.from_residual.ensures.1 (c.in_err-load.ensures.counted ∙ ap (count_after stop) c.loop-round.invariant.faults)

pub returns-in_err-load-clause-last : goal.returns-in_err-load-clause-last
returns-in_err-load-clause-last g c = on_err _ c.from_residual.result
    (λ honest d s first h k a.
    let i = c.loop-round.invariant in
    let l = i.loading (c.in_err-load.ensures.host honest).0 d s h k in
    loading_last (g.E.SessionCalls.stands d) (session_of d) s c.loop-round._round _ _ _ _ first _ _ l c.in_err-load.ensures.unchanged (i.asked first a) (c.in_err-load.ensures.last d l.went.state l.went.at))
