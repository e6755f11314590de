use Rattle.std.proofs.Common.{ap, ◌∙◌}
use Rattle.std.specs.BTreeSet.{contains}
use Rattle.cedar_expr_model.specs.Uid.{Uid}
use Rattle.cedar_schema_entries.specs.Views.{action_seen}
use Rattle.cedar_typechecker.specs.Pairs.{types_by}
use Rattle.cedar_typechecker.proofs.Gathering.{type_put}
use Rattle.cedar_typechecker.proofs.action_types.add_type.Goals as goal

pub returns : goal.returns
returns c = λ q.
    type_put c.in_ok-ty.ty q (action_seen c.args.action.now).uid.kind (c.in_ok-ty.ensures.cases.0 ∙ c.entity_type.ensures ∙ ap (λ (u : Uid). u.kind) c.name.ensures) (contains types_by c.insert.new.self q) (contains types_by c.args.types.now q) (c.in_ok-insert.ensures.updates.0 q)
