-- Worlds that know more than another.
-- Rule: what is known (docs/RULES.md).
use Rattle.std.specs.Prelude.{◌≡◌, List, Option, Some, None, IsSome, IfSome}
use Rattle.std.specs.Map.{lookup}
use Rattle.std.specs.Str.{bytes_eq}
use Rattle.cedar_expr_model.specs.Name.{Text}
use Rattle.cedar_expr_model.specs.Uid.{Uid}
use Rattle.cedar_expr_model.specs.Value.{V}
use Rattle.cedar_expr_model.specs.Tree.{SlotId}
use Rattle.cedar_expr_model.specs.ValueParts.{Part, known, left}
use Rattle.cedar_store_model.specs.World.{World, Entity, Found, held, missing, not_loaded}

-- what is there in the first is the same in the second
abbrev pub Keeps : {A : Type 0} → Option A → Option A → Type 0
Keeps a b = IfSome a (λ x. b ≡ Some x)

-- a part that is a value is the same value, one that isn't yet may be any part, and one that isn't there stays away
abbrev pub KeepsPart : Option (Part V) → Option (Part V) → Type 0
KeepsPart None q = q ≡ None
KeepsPart (Some (known v)) q = q ≡ Some (known v)
KeepsPart (Some (left t)) q = IsSome q

abbrev pub KeepsParts : List (Text × Part V) → List (Text × Part V) → Type 0
KeepsParts ps qs = (a : Text) → KeepsPart (lookup (bytes_eq a) ps) (lookup (bytes_eq a) qs)

-- the entity's parts are kept, and it has the same ancestors
pub record KeepsEntity (e d : Entity V) : Type 0 where
  pub attributes : KeepsParts e.attributes d.attributes
  pub tags : KeepsParts e.tags d.tags
  pub ancestors : d.ancestors ≡ e.ancestors

-- a held entity is held, one that is missing is missing, and one that isn't loaded may be anything
abbrev pub KeepsFound : Found V → Found V → Type 0
KeepsFound (held e) f = (d : Entity V) × (f ≡ held d) × KeepsEntity e d
KeepsFound missing f = f ≡ missing
KeepsFound not_loaded f = Unit {0}

-- The second world knows what the first knows, and perhaps more.
pub record Extends (k w : World) : Type 0 where
  pub principal : Keeps k.principal w.principal
  pub action : Keeps k.action w.action
  pub resource : Keeps k.resource w.resource
  pub context : Keeps k.context w.context
  pub slots : (s : SlotId) → w.slots s ≡ k.slots s
  pub unknowns : (n : Text) → Keeps (k.unknowns n) (w.unknowns n)
  pub table : w.table ≡ k.table
  pub store : (u : Uid) → KeepsFound (k.store u) (w.store u)
