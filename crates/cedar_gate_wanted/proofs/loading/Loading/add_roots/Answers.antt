use Rattle.std.proofs.Common.{subst}
use Rattle.cedar_gate_wanted.specs.Rows.{found_at, uids, writes}
use Rattle.cedar_gate_wanted.specs.Supplying.{keys_in}
use Rattle.cedar_gate_wanted.proofs.Opening.{stays}
use Rattle.cedar_gate_wanted.proofs.Taking.{Next, after_roots}
use Rattle.cedar_gate_wanted.proofs.loading.Loading.add_roots.Goals as goal

pub returns-in-Ok-clause-wanting : goal.returns-in-Ok-clause-wanting
returns-in-Ok-clause-wanting g c = λ w.
    let s = g.S.DeclaredActions.schema c.args.schema.now in
    let f = found_at c.args.self.now.near in
    let h = found_at c.add.new.near in
    let a = found_at c.args.self.now.rows in
    let log = c.in_ok-log.log.items in
    record {
      in_order = c.in-Ok.ensures.rising;
      exact = after_roots s (uids c.args.self.now.wanted.items) (uids c.in-Ok.wanted.items) log f h a w.exact c.in_ok-log.ensures.log
          (subst (λ zs. Next s (uids c.in-Ok.wanted.items) (uids zs) (keys_in log) h a) c.as_slice-wanted.ensures.value c.in-Ok.ensures.members);
      kept = λ u k. stays (writes log) f h u c.in_ok-log.ensures.log (w.kept u k);
    }
