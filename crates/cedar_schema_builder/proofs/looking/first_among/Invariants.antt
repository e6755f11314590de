use Rattle.std.proofs.Common.{◌≡◌, find, drop}
use Rattle.std.specs.List.{flat_map}
use Rattle.cedar_schema_builder.proofs.looking.first_among.Given as goal

abbrev pub invariant-loop-part : goal.invariant-loop-part
invariant-loop-part g l = find g.L.Look.wanted (flat_map g.L.Look.names l.parts) ≡ find g.L.Look.wanted (flat_map g.L.Look.names (drop l.part-index l.parts))
