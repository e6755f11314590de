use Rattle.std.proofs.Common.{refl, sym, ap, subst}
use Rattle.cedar_expr_leaves.specs.Literals.{literal_of}
use Rattle.cedar_expr_model.specs.Tree.{lit}
use Rattle.cedar_typechecker_environments.specs.Facts.{facts_of}
use Rattle.cedar_typechecker_environments.specs.Settings.{setting_of}
use Rattle.cedar_typechecker_model.specs.Typing.{plain}
use Rattle.cedar_typechecker_fast_path.specs.Within.{LeadsWithin}
use Rattle.cedar_typechecker_fast_path.proofs.Stepping.{literal_leads}
use Rattle.cedar_typechecker_fast_path.proofs.walk.literal_within.Goals as goal

pub returns : goal.returns
returns g c =
    let n = c.args.level in
    let s = setting_of g.S.DeclaredAttributes.schema g.S.TypingSchema.table c.args.world.now in
    let known = facts_of c.args.known.now in
    let p = literal_of c.args.literal.now in
    c.plainly_within.ensures n s known (lit p) (ap plain (sym c.in_ok-ty.ensures)) refl (subst (LeadsWithin n s known (lit p)) (sym c.literal_steps.ensures) (literal_leads n s known p))
