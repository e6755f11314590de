-- What is found of resolved declarations that are assembled.
-- Rule: schemas; descent; well-formed declarations (docs/RULES.md).
use Rattle.std.specs.Prelude.{◌≡◌, List, true, Contains}
use Rattle.cedar_expr_model.specs.Name.{Name}
use Rattle.cedar_expr_model.specs.Uid.{Uid}
use Rattle.cedar_schema_model.specs.Contexts.{is_record_type}
use Rattle.cedar_schema_decl.specs.Forms.{TypeForm}
use Rattle.cedar_schema_model.specs.Kept.{KeptType, KeptAction}
use Rattle.cedar_schema_model.specs.Descent.{ActionDescends}
use Rattle.cedar_schema_resolver.specs.Meanings.{Setting, told}
use Rattle.cedar_schema_resolver.specs.Refusals.{AreKnown}
use Rattle.cedar_schema_assembly.specs.Pieces.{AreTypesOf, AreActionsOf}
use Rattle.cedar_schema_assembly.specs.Told.{schema_told, types_in}
use Rattle.cedar_schema_assembly.specs.Seen.{WrittenType, WrittenAction}

-- They are the entity types of the schema that these tell, whatever its actions, and its actions, whatever its entity types.
pub record AreTypesTold (s : Setting) (es : List WrittenType) (ts : List KeptType) : Type 0 where
  pub each : (as_ : List WrittenAction) → AreTypesOf (schema_told s es as_) ts

pub record AreActionsTold (s : Setting) (as_ : List WrittenAction) (ks : List KeptAction) : Type 0 where
  pub each : (es : List WrittenType) → AreActionsOf (schema_told s es as_) ks

-- All extension types in them are known.
pub record AreTypesKnown (x : List Name) (es : List WrittenType) : Type 0 where
  pub each : (e : WrittenType) → Contains es e → (t : TypeForm Name) → Contains (types_in e.1) t → AreKnown x t

pub record AreContextsKnown (x : List Name) (as_ : List WrittenAction) : Type 0 where
  pub each : (a : WrittenAction) → Contains as_ a → AreKnown x a.1.context

-- Each context is told as a type of records.
pub record AreContextsRecords (s : Setting) (as_ : List WrittenAction) : Type 0 where
  pub each : (a : WrittenAction) → Contains as_ a → is_record_type (told s a.1.context) ≡ true

-- No action descends from itself.
pub record AreApart (s : Setting) (as_ : List WrittenAction) : Type 0 where
  pub none : (es : List WrittenType) (u : Uid) → ActionDescends (schema_told s es as_) u u → ⊥
