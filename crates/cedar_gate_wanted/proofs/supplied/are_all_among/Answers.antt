use Rattle.std.proofs.Common.{rules, ◌≡◌, false, sym, ◌∙◌}
use Rattle.std.specs.Prelude.{is_some}
use Rattle.cedar_expr_names.specs.Views.{uid_of}
use Rattle.cedar_gate_wanted.specs.Rows.{found_at}
use Rattle.cedar_gate_wanted.proofs.Testing.{all_stop}
use Rattle.cedar_gate_wanted.proofs.supplied.are_all_among.Goals as goal

pub returns-then-not-has_key : goal.returns-then-not-has_key
returns-then-not-has_key c =
    let lacks : c.has_key.result ≡ false = search rules in
    sym (all_stop (λ u. is_some (found_at c.args.keys.now u)) uid_of c.args.wanted.now c.loop-uid.uid-index c.uid-item.result c.loop-uid-test.true c.uid-item.is (sym c.has_key.ensures ∙ lacks))
