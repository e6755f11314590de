use Rattle.std.proofs.Common.{arith, ◌≡◌, inr, refl, take, subst}
use Rattle.std.proofs.lemmas.List.{take_all}
use Rattle.cedar_expr_model.proofs.Lists.{contains_none}
use Rattle.cedar_gate_wanted.specs.Rows.{found_at, uids}
use Rattle.cedar_gate_wanted.proofs.Filling.{out_more}
use Rattle.cedar_gate_wanted.specs.Supplying.{IsOut}
use Rattle.cedar_gate_wanted.proofs.Going.{next_uid}
use Rattle.cedar_gate_wanted.proofs.rows.take_out_all.Goals as goal

pub loop-key-init : goal.loop-key-init
loop-key-init g c = λ u. inr (contains_none u, refl)

pub loop-key-preserved : goal.loop-key-preserved
loop-key-preserved g c = out_more _ _ _ _ _ _ (next_uid c.args.keys.now c.loop-key.key-index c.key-item.result c.loop-key-test.true c.key-item.is) c.loop-key.invariant c.take_out.ensures.here c.take_out.ensures.apart

pub returns : goal.returns
returns g c = let all : take c.loop-key.key-index c.args.keys.now ≡ c.args.keys.now = take_all c.loop-key.key-index c.args.keys.now (omega arith) in
    λ u. subst (λ zs. IsOut (uids zs) (found_at c.args.rows.now) (found_at c.loop-key.rows) u) all (c.loop-key.invariant u)
