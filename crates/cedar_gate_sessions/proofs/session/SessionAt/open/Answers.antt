use Rattle.std.proofs.Common.{[], ap, ◌∙◌}
use Rattle.cedar_gate_model.specs.RunsAnswer.{session_of}
use Rattle.cedar_gate_wanted.specs.Rows.{found_at}
use Rattle.cedar_gate_sessions.proofs.Starting.{none_bound, starts_at}
use Rattle.cedar_gate_sessions.proofs.session.SessionAt.open.Goals as goal

pub returns-clause-at : goal.returns-clause-at
returns-clause-at g c =
    let schema = g.G.DeclaredActions.schema c.args.gate.now in
    starts_at g.G.GateCalls.suits c.roots_are_known.ensures _ c.context_is_made.ensures c.in_ok-check_names.ensures.opens
    (none_bound c.new-bound.result c.new-bound.ensures.empty) c.in_ok-now.ensures.at_state
    (λ x h. c.add_known_roots.ensures.level ∙ c.new-loading.ensures.level ∙ c.level.ensures x h) schema c.schema_is.ensures (c.in_ok-add_known_roots.ensures.wanting (c.new-loading.ensures.wanting schema))
    (λ u. ap (λ m. found_at m u) c.add_known_roots.ensures.rows ∙ c.new-loading.ensures.rows u) (c.in_ok-add_known_roots.ensures.kept [] c.new-loading.ensures.kept) _ c.in_ok-actions.ensures c.in_ok-loaded.ensures.kept c.in_ok-loaded.ensures.extent c.in_ok-loaded.ensures.absent

pub returns-clause-stands : goal.returns-clause-stands
returns-clause-stands g c = λ d setup admitted fair same. record { admitted = admitted; fair = fair; at = returns-clause-at g c (session_of d) setup; policies = same }
