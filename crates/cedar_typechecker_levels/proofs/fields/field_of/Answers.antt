use Rattle.std.proofs.Common.{sym, ◌∙◌}
use Rattle.std.specs.Rc.{rc_str_bytes}
use Rattle.cedar_typechecker_levels.proofs.Finding.{found_on, found_here, found_end, found_among}
use Rattle.cedar_typechecker_levels.proofs.fields.field_of.Goals as goal

pub returns-then-eq-clause-value : goal.returns-then-eq-clause-value
returns-then-eq-clause-value c = found_here (rc_str_bytes c.args.name.now) c.args.fields.now.entries c.loop-key.key-iterator c.next.new.self c.in-Some.key.now c.in-Some.e.now c.loop-key.invariant c.in-Some.ensures.steps (sym c.eq.ensures ∙ c.if-eq.true)

pub returns-then-eq-clause-member : goal.returns-then-eq-clause-member
returns-then-eq-clause-member c = found_among (rc_str_bytes c.args.name.now) c.args.fields.now.entries c.in-Some.e.now (found_here (rc_str_bytes c.args.name.now) c.args.fields.now.entries c.loop-key.key-iterator c.next.new.self c.in-Some.key.now c.in-Some.e.now c.loop-key.invariant c.in-Some.ensures.steps (sym c.eq.ensures ∙ c.if-eq.true))

pub loop-key-preserved : goal.loop-key-preserved
loop-key-preserved c = found_on (rc_str_bytes c.args.name.now) c.args.fields.now.entries c.loop-key.key-iterator c.next.new.self c.in-Some.key.now c.in-Some.e.now c.loop-key.invariant c.in-Some.ensures.steps (sym c.eq.ensures ∙ c.if-eq.false)

pub returns-clause-value : goal.returns-clause-value
returns-clause-value c = found_end (rc_str_bytes c.args.name.now) c.args.fields.now.entries c.loop-key.key-iterator c.loop-key.invariant (c.in-None.ensures.steps).0
