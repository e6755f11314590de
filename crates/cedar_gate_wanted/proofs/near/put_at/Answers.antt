use Rattle.std.proofs.Common.{rules, ◌≡◌, ◌∙◌, sym, Some, None}
use Rattle.cedar_expr_names.specs.Views.{uid_of}
use Rattle.cedar_gate_wanted.specs.Rows.{found_at}
use Rattle.cedar_gate_wanted.proofs.ByUid.{written_here, written_apart, by_its_uid}
use Rattle.cedar_gate_wanted.proofs.near.put_at.Goals as goal

pub returns-clause-here : goal.returns-clause-here
returns-clause-here c = written_here c.args.near.now.entries c.insert.new.self.entries c.args.uid (Some c.args.distance) c.in_ok-insert.ensures.updates.0

pub returns-clause-apart : goal.returns-clause-apart
returns-clause-apart c = written_apart c.args.near.now.entries c.insert.new.self.entries c.args.uid (Some c.args.distance) c.in_ok-insert.ensures.updates.0

pub returns-in_err-insert-clause-fresh : goal.returns-in_err-insert-clause-fresh
returns-in_err-insert-clause-fresh c = let none : found_at c.args.near.now (uid_of c.args.uid) ≡ None = sym (by_its_uid c.args.near.now.entries c.args.uid) ∙ c.in_err-insert.ensures.absent in search rules
