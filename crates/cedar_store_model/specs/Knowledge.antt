-- Worlds in which everything is known.
-- Rule: what is known (docs/RULES.md).
use Rattle.std.specs.Prelude.{◌≡◌, ◌&&◌, Bool, true, IsSome, is_some}
use Rattle.std.specs.List.{list_all}
use Rattle.cedar_expr_model.specs.Name.{Text}
use Rattle.cedar_expr_model.specs.Uid.{Uid}
use Rattle.cedar_expr_model.specs.Value.{V}
use Rattle.cedar_expr_model.specs.ValueParts.{Part, known_value}
use Rattle.cedar_store_model.specs.World.{World, Entity, Found, held, missing, not_loaded}

-- the part is a value
abbrev pub is_known : {A : Type 0} → Part A → Bool
is_known p = is_some (known_value p)

-- attributes and tags are values alone
abbrev pub holds_values : Entity V → Bool
holds_values e = list_all (λ p. is_known p.1) e.attributes && list_all (λ p. is_known p.1) e.tags

-- the entity is known and holds values alone, or it is known that there is none
abbrev pub IsSettled : Found V → Type 0
IsSettled (held e) = holds_values e ≡ true
IsSettled missing = Unit {0}
IsSettled not_loaded = ⊥

-- A world where everything is known: the variables, each unknown, and each uid. A slot may be unbound.
pub record IsWhole (w : World) : Type 0 where
  pub principal : IsSome w.principal
  pub action : IsSome w.action
  pub resource : IsSome w.resource
  pub context : IsSome w.context
  pub unknowns : (n : Text) → IsSome (w.unknowns n)
  pub store : (u : Uid) → IsSettled (w.store u)
