use Rattle.std.proofs.Common.{option_map, ap, sym, ◌∙◌}
use Rattle.std.specs.Borrow.{Bor}
use Rattle.cedar_schema_joins.specs.Modes.{mode_of}
use Rattle.cedar_schema_types.specs.Types.{type_of}
use Rattle.cedar_schema_types.specs.declared.types.Type.{«Type» as CodeType}
use Rattle.cedar_typechecker_rules.proofs.Joined.{stops_at}
use Rattle.cedar_typechecker_rules.proofs.literals.all_joined.Goals as goal

pub returns-in-None : goal.returns-in-None
returns-in-None c =
    stops_at (mode_of c.args.mode) (λ (m : Bor CodeType). type_of m.now) c.args.types.now c.loop-ty.ty-index c.ty-item.result _ (type_of c.loop-ty.joined) _ c.loop-ty-test.true c.ty-item.is c.loop-ty.invariant
    (sym (ap (option_map type_of) c.in-None.is) ∙ c.in_ok-next.ensures)
