-- The entity types and the actions together.
use Rattle.cedar_schema_assembly.specs.Pieces.{PiecesAreKept}

pub together : PiecesAreKept
together s k ts as_ = record {
  types = ts.each;
  all_types = ts.all;
  types_once = ts.once;
  types_below = ts.below;
  actions = as_.each;
  all_actions = as_.all;
  actions_once = as_.once;
  actions_below = as_.below;
}
