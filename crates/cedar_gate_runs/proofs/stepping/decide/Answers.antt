use Rattle.std.proofs.Common.{[], ◌∷◌, refl}
use Rattle.std.specs.Prelude.{option_map}
use Rattle.cedar_evaluator_requests.specs.Views.{decision_of}
use Rattle.cedar_gate_model.specs.RunsAnswer.{session_of}
use Rattle.cedar_gate_model.specs.Transcript.{decided}
use Rattle.cedar_gate_runs.proofs.Asked.{no_more}
use Rattle.cedar_gate_runs.proofs.Pushed.{pushed_in_room}
use Rattle.cedar_gate_runs.proofs.Stepped.{decides}
use Rattle.cedar_gate_runs.proofs.stepping.decide.Goals as goal

pub returns-clause-did : goal.returns-clause-did
returns-clause-did g c = λ d s h.
    let o = option_map decision_of c.in_ok-decision.decision in
    record {
      entries = decided o ∷ [];
      state = s;
      leads = decides (session_of d) d.submission.policies s o (c.in_ok-decision.ensures d s h);
      added = pushed_in_room _ _ _ _ (decided o) c.in_ok-reserve.ensures.items c.in_ok-push.ensures.items refl;
      at = h;
    }

pub returns-clause-rounds : goal.returns-clause-rounds
returns-clause-rounds g c =
    let o = option_map decision_of c.in_ok-decision.decision in
    no_more _ _ (decided o) refl (pushed_in_room _ _ _ _ (decided o) c.in_ok-reserve.ensures.items c.in_ok-push.ensures.items refl)
