use Rattle.std.proofs.Common.{rules, ◌≡◌, true, false, length, refl, sym, ap, ◌∙◌}
use Rattle.std.specs.Prelude.{is_some}
use Rattle.cedar_expr_model.proofs.Lists.{all_each}
use Rattle.cedar_gate_wanted.specs.Rows.{found_at, uids}
use Rattle.cedar_gate_wanted.specs.Supplying.{keys_in}
use Rattle.cedar_gate_wanted.proofs.Checking.{lacks_one, not_wanted, all_wanted, nothing_in, something_in}
use Rattle.cedar_gate_wanted.proofs.supplied.check.Goals as goal

pub returns-then-not-is_empty-clause-refused : goal.returns-then-not-is_empty-clause-refused
returns-then-not-is_empty-clause-refused c =
    let k = rw c.in-Some.is at c.in_ok-keys.ensures in
    let left = something_in c.take_out_all.new.rows.entries (λ e. let full : c.is_empty.result ≡ false = search rules in let empty : c.is_empty.result ≡ true = c.is_empty.ensures.1 e in cc) in
    not_wanted (uids c.args.wanted.now) (keys_in c.args.supplied.now) (found_at c.in-Some.keys) (found_at c.take_out_all.new.rows) k.1 c.take_out_all.ensures left.0 left.1

pub returns-then-all_there-clause-ok : goal.returns-then-all_there-clause-ok
returns-then-all_there-clause-ok c =
    let k = rw c.in-Some.is at c.in_ok-keys.ensures in
    let empty : c.is_empty.result ≡ true = search rules in
    record {
      each = all_wanted (uids c.args.wanted.now) (keys_in c.args.supplied.now) (found_at c.in-Some.keys) (found_at c.take_out_all.new.rows) k.1 c.take_out_all.ensures (nothing_in c.take_out_all.new.rows.entries (c.is_empty.ensures.0 empty));
      all = λ u m. (k.1 u).0 (all_each (λ u. is_some (found_at c.in-Some.keys u)) (uids c.args.wanted.now) (sym c.are_all_among-all_there.ensures ∙ c.if-all_there.true) u m);
      once = k.0;
    }

pub returns-clause-refused : goal.returns-clause-refused
returns-clause-refused c =
    let k = rw c.in-Some.is at c.in_ok-keys.ensures in
    lacks_one (uids c.args.wanted.now) (keys_in c.args.supplied.now) (found_at c.in-Some.keys) (found_at c.take_out_all.new.rows) k.1 c.take_out_all.ensures (sym c.are_all_among-all_there.ensures ∙ c.if-all_there.false)
