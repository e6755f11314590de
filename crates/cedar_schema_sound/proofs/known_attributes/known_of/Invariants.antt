use Rattle.std.proofs.Common.{◌≡◌, map}
use Rattle.std.specs.Rc.{rc_str_bytes}
use Rattle.cedar_schema_model.specs.Lookup.{lookup_attribute}
use Rattle.cedar_schema_types.specs.Types.{type_of, attributes_of}
use Rattle.cedar_schema_types.specs.AttributeLists.{declared_pairs, names_in}
use Rattle.cedar_schema_sound.specs.Known.{declared_among}
use Rattle.cedar_schema_sound.proofs.AmongAttributes.{gathered}
use Rattle.cedar_schema_sound.proofs.known_attributes.known_of.Given as goal

abbrev pub invariant-loop-name : goal.invariant-loop-name
invariant-loop-name g l =
    let f = lookup_attribute (g.S.DeclaredAttributes.schema l.schema) (type_of l.ty) in
    gathered f (declared_pairs l.pairs.items) (map rc_str_bytes l.name-iterator) ≡ declared_among f (names_in (attributes_of l.attrs))
