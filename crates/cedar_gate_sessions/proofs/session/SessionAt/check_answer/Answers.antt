use Rattle.std.proofs.Common.{◌≡◌, true, false, sym, subst, ◌∙◌}
use Rattle.cedar_expr_names.specs.Views.{uid_of}
use Rattle.cedar_gate_sessions.proofs.Answerable.{some_there, none_there}
use Rattle.cedar_gate_sessions.proofs.session.SessionAt.check_answer.Goals as goal

pub returns-then-not-is_empty-clause-refused : goal.returns-then-not-is_empty-clause-refused
returns-then-not-is_empty-clause-refused g c = some_there uid_of c.wanted.result.now _ c.wanted.ensures (sym c.is_empty.ensures ∙ c.if-not-is_empty.true)

pub returns-then-not-branch-clause-refused : goal.returns-then-not-branch-clause-refused
returns-then-not-branch-clause-refused g c = (c.in_ok-has_open.ensures.none c.if-branch.false, sym c.in_ok-request_conforms.ensures ∙ c.if-not-branch.true)

pub returns-clause-given : goal.returns-clause-given
returns-clause-given g c = record {
  bound = c.in_ok-has_open.ensures.none c.if-branch.false;
  loaded = none_there uid_of c.wanted.result.now _ c.wanted.ensures (sym c.is_empty.ensures ∙ c.if-not-is_empty.false);
  conforming = sym c.in_ok-request_conforms.ensures ∙ c.if-not-branch.false;
}
