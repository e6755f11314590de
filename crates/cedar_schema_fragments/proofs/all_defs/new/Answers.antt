use Rattle.std.proofs.Common.{sym, subst}
use Rattle.cedar_schema_fragments.specs.Marked.{HasAll}
use Rattle.cedar_schema_fragments.proofs.Membership.{all_marked}
use Rattle.cedar_schema_fragments.proofs.all_defs.new.Goals as goal

pub returns-in-Ok-clause-declared : goal.returns-in-Ok-clause-declared
returns-in-Ok-clause-declared g c = subst (HasAll c.args.fragments.now) (sym c.in-Ok.ensures) (all_marked c.args.fragments.now)
