-- What is supplied to a session.
-- Rule: refusals of a session (docs/RULES.md).
use Rattle.std.specs.Prelude.{◌≡◌, List, Contains, map, Option, IfSome, option_map}
use Rattle.cedar_expr_names.specs.Views.{uid_of}
use Rattle.cedar_expr_names.specs.declared.entity.EntityUID.{EntityUID}
use Rattle.cedar_expr_model.specs.Uid.{Uid}
use Rattle.cedar_expr_model.specs.Value.{V}
use Rattle.cedar_store_entities.specs.Views.{entity_pair, entity_seen}
use Rattle.cedar_store_entities.specs.declared.entity.Entity.{Entity}
use Rattle.cedar_store_model.specs.World as world
use Rattle.cedar_evaluator_model.specs.OfLaws.WellMade.{IsEntityRepresented}
use Rattle.cedar_gate_model.specs.Runs.{supplied_by}
use Rattle.cedar_gate_model.specs.Session.{Setup, Supplied}

-- what was supplied, and for which uids
abbrev pub supplied_pair : EntityUID × Option Entity → Uid × Option (Uid × world.Entity V)
supplied_pair p = (uid_of p.0, option_map entity_pair p.1)

abbrev pub supplied_of : List (EntityUID × Option Entity) → Supplied
supplied_of ps = map supplied_pair ps

abbrev pub supplied_uids : List (EntityUID × Option Entity) → List Uid
supplied_uids ps = map (λ p. uid_of p.0) ps

-- What is supplied is what the store answers, and the extension values in it are what the calls of the table give.
pub record AreAnswers (x : Setup) (ps : List (EntityUID × Option Entity)) : Type 0 where
  pub answered : supplied_of ps ≡ supplied_by x (supplied_uids ps)
  pub represented : (p : EntityUID × Option Entity) → Contains ps p → IfSome p.1 (λ e. IsEntityRepresented x.functions.table (entity_seen e))
