-- Actions as entities.
-- Rule: action entities (docs/RULES.md).
use Rattle.std.specs.Prelude.{Bool, not, List, []}
use Rattle.std.specs.List.{list_all}
use Rattle.cedar_expr_model.specs.Uid.{Uid}
use Rattle.cedar_expr_model.specs.Value.{V}
use Rattle.cedar_store_model.specs.World.{Entity}
use Rattle.cedar_store_entities.specs.Recorded.{Kin, all_recorded}

-- an entity with these recorded ancestors alone
abbrev pub recorded_entity : Uid → List Uid → Uid × Entity V
recorded_entity u above = (u, record { attributes = []; tags = []; ancestors = all_recorded [] above })

-- no recorded ancestor is a parent
abbrev pub are_indirect : Kin → Bool
are_indirect ks = list_all (λ k. not k.1) ks
