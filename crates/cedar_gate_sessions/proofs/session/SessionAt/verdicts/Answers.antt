use Rattle.std.proofs.Common.{refl, ◌∙◌}
use Rattle.std.proofs.lemmas.Result.{IfOk-weaker}
use Rattle.cedar_gate_sessions.specs.Sessions.{loaded_in, store_in, was_asked}
use Rattle.cedar_gate_sessions.proofs.Knowing.{part_is_made}
use Rattle.cedar_gate_sessions.proofs.session.SessionAt.verdicts.Goals as goal

pub returns : goal.returns
returns g c =
    let d = c.args.self.now in
    IfOk-weaker c.verdicts.result _ _ (λ vs said x s at. said x s (store_in d) (at.setup).gate record {
      request = c.in_ok-clone.ensures.cases ∙ at.now;
      store = λ u. part_is_made d.loaded (loaded_in d) refl u (was_asked d) at.recorded;
      bound = at.bound;
    }) c.verdicts.ensures
