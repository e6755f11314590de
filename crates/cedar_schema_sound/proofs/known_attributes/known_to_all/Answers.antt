use Rattle.std.proofs.Common.{ap, ◌∙◌}
use Rattle.cedar_expr_model.specs.Records.{in_order}
use Rattle.cedar_schema_model.specs.Lookup.{lookup_attribute}
use Rattle.cedar_schema_types.specs.AttributeLists.{attributes_from, names_in}
use Rattle.cedar_schema_types.specs.Types.{attributes_of}
use Rattle.cedar_schema_types.specs.Unions.{members_of}
use Rattle.cedar_schema_sound.specs.Known.{declared_among}
use Rattle.cedar_schema_sound.proofs.AmongAttributes.{known_are_all, made_so}
use Rattle.cedar_schema_sound.proofs.known_attributes.known_to_all.Goals as goal

pub returns-in_ok-pairs-in-Some : goal.returns-in_ok-pairs-in-Some
returns-in_ok-pairs-in-Some g c =
    let s = g.S.DeclaredAttributes.schema c.args.schema.now in
    let names = names_in (attributes_of c.in-Some.attrs.now) in
    made_so _ _ c.with_attributes.result c.with_attributes.ensures
    (λ r e. known_are_all s (members_of c.args.union.now) (attributes_of c.in-Some.attrs.now) (attributes_of r) c.in-Some.ensures
    (e ∙ ap (λ ps. attributes_from (in_order ps)) (c.in_ok-pairs-in-Some.ensures ∙ ap (λ t. declared_among (lookup_attribute s t) names) c.requires)))
