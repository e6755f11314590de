use Rattle.std.proofs.Common.{◌≡◌, drop, option_map}
use Rattle.serde_json.specs.View.{items_view}
use Rattle.cedar_schema_model.specs.Declarations.{bag}
use Rattle.cedar_gate_model.specs.Reading.{each}
use Rattle.cedar_gate_model.specs.ReadingSchema.{fragment_read}
use Rattle.cedar_gate_fragments.specs.Written.{declared_by}
use Rattle.cedar_gate_fragments.proofs.Together.{then_joined}
use Rattle.cedar_gate_fragments.proofs.fragments.read_fragments.Given as goal

abbrev pub invariant-loop-item : goal.invariant-loop-item
invariant-loop-item l =
    then_joined (declared_by l.fragments.items) (option_map bag (each fragment_read (items_view (drop l.item-index l.items)))) ≡ option_map bag (each fragment_read (items_view l.items))
