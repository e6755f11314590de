use Rattle.std.proofs.Common.{sym, ap, ◌∙◌}
use Rattle.cedar_expr_names.specs.Views.{uid_of}
use Rattle.cedar_typechecker_scopes.specs.Applying.{is_or_descends}
use Rattle.cedar_typechecker_scopes.proofs.Loops.{any_here}
use Rattle.cedar_typechecker_scopes.proofs.applying.descends_from_one.Goals as goal

pub returns-then-is_or_descends : goal.returns-then-is_or_descends
returns-then-is_or_descends g c =
    sym (any_here (is_or_descends (g.S.DeclaredAttributes.schema c.args.schema.now) (uid_of c.args.action.now)) (λ u. uid_of u.value) c.args.uids.now c.loop-uid.uid-index c.uid-item.result _ c.loop-uid-test.true c.uid-item.is
    (ap (λ u. is_or_descends (g.S.DeclaredAttributes.schema c.args.schema.now) (uid_of c.args.action.now) (uid_of u)) (sym c.deref.ensures) ∙ sym c.is_or_descends.ensures ∙ c.if-is_or_descends.true))
