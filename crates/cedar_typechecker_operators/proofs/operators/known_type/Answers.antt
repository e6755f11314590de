use Rattle.std.proofs.Common.{◌≡◌, IfOk, option_map, subst}
use Rattle.cedar_schema_model.specs.Lookup.{lookup_attribute}
use Rattle.cedar_schema_types.specs.Types.{type_of}
use Rattle.cedar_typechecker_model.specs.Rules.{attribute_type}
use Rattle.cedar_typechecker_operators.proofs.operators.known_type.Goals as goal

pub returns : goal.returns
returns g c =
    subst (λ q. IfOk c.get_type.result (λ t. option_map type_of t ≡ q))
    (λ i. attribute_type (c.in_ok-is_known.ensures i) (lookup_attribute (g.S.DeclaredAttributes.schema c.args.world.now.schema.now) (type_of c.args.ty.now) (c.as_str.ensures.value i)))
    c.get_type.ensures
