use Rattle.std.proofs.Common.{rules, ◌≡◌, false, sym, ◌∙◌}
use Rattle.cedar_gate_sessions.proofs.Stopping.{all_stop}
use Rattle.cedar_gate_sessions.specs.Entities.{supplied_pair}
use Rattle.cedar_gate_sessions.specs.Loaded.{is_right}
use Rattle.cedar_gate_sessions.proofs.supplied.are_right.Goals as goal

pub returns-then-not-is_right : goal.returns-then-not-is_right
returns-then-not-is_right g c =
    let wrong : c.is_right.result ≡ false = search rules in
    sym (all_stop (is_right (g.S.DeclaredActions.schema c.args.schema.now)) supplied_pair c.args.supplied.now c.loop-pair.pair-index c.pair-item.result c.loop-pair-test.true c.pair-item.is (sym c.is_right.ensures ∙ wrong))
