-- What is made of each of several declarations, with the set of what descends from it.
-- Rule: schemas; descent (docs/RULES.md).
use Rattle.std.specs.Prelude.{◌≡◌, List, [], ◌∷◌, true, false, Option, Some, None, Contains}
use Rattle.cedar_expr_model.specs.Name.{Name}
use Rattle.cedar_expr_model.specs.Uid.{Uid}
use Rattle.cedar_schema_model.specs.Contexts.{is_record_type}
use Rattle.cedar_schema_decl.specs.Forms.{TypeForm}
use Rattle.cedar_schema_model.specs.Kept.{KeptType, KeptAction}
use Rattle.cedar_schema_model.specs.KeptOf.{IsSameType, IsSameAction}
use Rattle.cedar_schema_model.specs.Resolved.{attributes_of_record}
use Rattle.cedar_schema_model.specs.Types.{Ty, record_type, is_closed}
use Rattle.cedar_schema_resolver.specs.Meanings.{Setting, told}
use Rattle.cedar_schema_resolver.specs.Refusals.{AreKnown}
use Rattle.cedar_schema_assembly.specs.Told.{entity_told, action_told, types_in}
use Rattle.cedar_schema_assembly.specs.Lists.{IsSetOf}
use Rattle.cedar_schema_assembly.specs.Seen.{WrittenType, WrittenAction}

-- Each is made of the declaration and the set in its place.
abbrev pub AreMade : {E B T : Type 0} → (E → B → T → Type 0) → List E → List B → List T → Type 0
AreMade made [] bs [] = Unit {0}
AreMade made (e ∷ es) (b ∷ bs) (t ∷ ts) = made e b t × AreMade made es bs ts
AreMade made es bs ts = ⊥

-- all extension types in these types are known
pub record AreAllKnown (x : List Name) (ts : List (TypeForm Name)) : Type 0 where
  pub each : (t : TypeForm Name) → Contains ts t → AreKnown x t

-- The entity type is the one that is written, with these descendants.
pub record IsTypeMade (s : Setting) (e : WrittenType) (below : List Name) (t : KeptType) : Type 0 where
  pub same : IsSameType t (entity_told s e)
  pub descendants : IsSetOf below t.descendants
  pub known : AreAllKnown s.extensions (types_in e.1)

-- The action is the one that is written, with these descendants. It isn't one of them, and its context is told as a type of records.
pub record IsActionMade (s : Setting) (a : WrittenAction) (below : List Uid) (k : KeptAction) : Type 0 where
  pub same : IsSameAction k (action_told s a)
  pub descendants : IsSetOf below k.descendants
  pub known : AreKnown s.extensions a.1.context
  pub is_record : is_record_type (told s a.1.context) ≡ true
  pub apart : Contains below a.0 → ⊥

-- It is the same type of records, closed; there is none of a type of something else.
abbrev pub AsRecord : Ty → Option Ty → Type 0
AsRecord t None = is_record_type t ≡ false
AsRecord t (Some r) = (is_record_type t ≡ true) × (r ≡ record_type (attributes_of_record t) is_closed)
