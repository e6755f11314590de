use Rattle.std.proofs.Common.{true, sym, subst, ◌∙◌}
use Rattle.std.proofs.lemmas.Result.{IfOk-weaker}
use Rattle.cedar_expr_model.specs.ListLaws.{AreDistinct}
use Rattle.cedar_store_model.specs.Answer.{ids}
use Rattle.cedar_evaluator_requests.specs.Views.{answer_of}
use Rattle.cedar_gate_model.specs.RunsAnswer.{session_of}
use Rattle.cedar_gate_sessions.specs.Sessions.{loaded_in, policies_in, stored_in}
use Rattle.cedar_gate_sessions.proofs.Answered.{answer_told}
use Rattle.cedar_gate_sessions.proofs.Knowing.{made_alike, steady_whole, whole_is_made}
use Rattle.cedar_gate_sessions.proofs.Stores.{steady}
use Rattle.cedar_gate_sessions.proofs.session.SessionAt.respond.Goals as goal

pub returns : goal.returns
returns g c =
    let d = c.args.self.now in
    let ps = policies_in g.G.GateCalls.accepted d in
    let store = stored_in (λ v. true) (loaded_in d) in
    IfOk-weaker c.respond.result _ _ (λ q said r s admitted at is nothing fine.
    let x = session_of r in
    let distinct = subst (λ qs. AreDistinct (ids qs)) (sym is) (c.accepted_policies_are_fit.ensures.distinct r.submission admitted.accepted) in
    answer_told r s store (steady x.schema store) (λ u. made_alike x s (loaded_in d) at.loaded u c.uids_are_uids.ensures (λ v. true)) ps is admitted at.opened c.answers_are_the_meaning.ensures.sessions (at.loaded).conform nothing fine
    (λ u. steady_whole x s (loaded_in d) at.loaded u) (answer_of q)
    (said x s store (at.setup).gate record {
      request = c.in_ok-clone.ensures.cases ∙ at.now;
      store = λ u. whole_is_made c.in_ok-entities.entities (loaded_in d) c.in_ok-entities.ensures.kept u c.in_ok-entities.ensures.extent;
      bound = at.bound;
    } distinct)) c.respond.ensures
