use Rattle.cedar_schema_built.specs.Views.{schema_kept}
use Rattle.cedar_schema_sound.proofs.Equal.{alike_are_equal}
use Rattle.cedar_schema_sound.proofs.laws.schemas_are_built_in_each_order.Goals as goal

pub returns : goal.returns
returns c = λ x fs gs d e w v r b m.
    alike_are_equal (schema_kept c.args.schema.now) (schema_kept c.args.other.now) c.schemas_are_in_order.ensures.kept c.schemas_are_in_order-2.ensures.kept
    (c.order_of_fragments_is_free.ensures.same x fs gs d e w v r (schema_kept c.args.schema.now) (schema_kept c.args.other.now) b m)
