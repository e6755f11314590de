use Rattle.std.proofs.Common.{◌≡◌, option_map}
use Rattle.serde_json.specs.View.{members_view}
use Rattle.cedar_schema_model.specs.Declarations.{bag}
use Rattle.cedar_gate_model.specs.Reading.{each_member}
use Rattle.cedar_gate_model.specs.ReadingSchema.{namespace_read}
use Rattle.cedar_gate_fragments.specs.Written.{declared_by}
use Rattle.cedar_gate_fragments.proofs.Together.{then_joined}
use Rattle.cedar_gate_fragments.proofs.fragments.add_namespaces.Given as goal

abbrev pub invariant-loop-key : goal.invariant-loop-key
invariant-loop-key l =
    then_joined (declared_by l.fragments.items) (option_map bag (each_member namespace_read (members_view l.key-iterator)))
    ≡ then_joined (declared_by l.fn.fragments.items) (option_map bag (each_member namespace_read (members_view l.members.entries)))
