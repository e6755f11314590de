use Rattle.std.proofs.Common.{[], ◌∷◌, sym, ap, ◌∙◌, subst}
use Rattle.cedar_schema_fragments.specs.Marked.{with_fragment, HasAll}
use Rattle.cedar_schema_fragments.proofs.Membership.{all_marked}
use Rattle.cedar_schema_fragments.proofs.all_defs.single_fragment.Goals as goal

pub returns-in-Ok-clause-declared : goal.returns-in-Ok-clause-declared
returns-in-Ok-clause-declared g c = subst (HasAll (c.args.fragment.now ∷ [])) (sym (c.in-Ok.ensures ∙ ap (with_fragment c.args.fragment.now) c.empty.ensures)) (all_marked (c.args.fragment.now ∷ []))
