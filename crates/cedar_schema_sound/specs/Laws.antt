-- What the laws of kept attributes say.
-- Rule: attributes of a type; schemas (docs/RULES.md).
use Rattle.std.specs.Prelude.{◌≡◌, List, true, Contains}
use Rattle.cedar_expr_model.specs.Name.{Text, Name, is_well_formed}
use Rattle.cedar_expr_leaves.specs.declared.conditional_name.ConditionalName.{ConditionalName}
use Rattle.cedar_schema_model.specs.Types.{Ty}
use Rattle.cedar_schema_model.specs.Schema.{Schema}
use Rattle.cedar_schema_model.specs.Declarations.{Declarations, entity_names}
use Rattle.cedar_schema_model.specs.Resolved.{schema_of}
use Rattle.cedar_schema_model.specs.Lookup.{lookup_attribute, may_have_attribute}
use Rattle.cedar_schema_model.specs.TypeLaws.{HasPlainAttributes}
use Rattle.cedar_schema_model.specs.Kept.{Kept}
use Rattle.cedar_schema_model.specs.KeptOf.{IsKeptOf}
use Rattle.cedar_schema_fragments.specs.WrittenDeclarations.{AreWritten}
use Rattle.cedar_schema_fragments.specs.declared.namespace_def.ValidatorSchemaFragment.{ValidatorSchemaFragment}
use Rattle.cedar_schema_built.specs.BuiltOf.{IsBuiltOf}
use Rattle.cedar_schema_sound.specs.Known.{attributes_kept}

-- What is kept of a schema declares of attributes what the schema declares.
abbrev pub AttributesAreKept : Type 0
AttributesAreKept = (s : Schema) (k : Kept) → IsKeptOf s k → (t : Ty) (a : Text) → lookup_attribute (attributes_kept k) t a ≡ lookup_attribute s t a

-- A value may have the same attributes by it.
abbrev pub MayHaveIsKept : Type 0
MayHaveIsKept = (s : Schema) (k : Kept) → IsKeptOf s k → (t : Ty) (a : Text) → may_have_attribute (attributes_kept k) t a ≡ may_have_attribute s t a

-- The attributes of the schema of declarations have well-formed types, and the type of all sets stands in none of these, where the
-- names of the declared entity types are well-formed.
abbrev pub NamedArePlain : Type 0
NamedArePlain = (d : Declarations) → ((n : Name) → Contains (entity_names d) n → is_well_formed n ≡ true) → HasPlainAttributes (schema_of d)

-- The names in fragments are. So it holds of the schema of the declarations that they write,
abbrev pub WrittenArePlain : Type 0
WrittenArePlain = (fs : List (ValidatorSchemaFragment ConditionalName ConditionalName)) (d : Declarations) → AreWritten fs d → HasPlainAttributes (schema_of d)

-- and of what is built of them.
abbrev pub BuiltArePlain : Type 0
BuiltArePlain = (x : List Name) (fs : List (ValidatorSchemaFragment ConditionalName ConditionalName)) (d : Declarations) → AreWritten fs d → (k : Kept) → IsBuiltOf x fs k → HasPlainAttributes (attributes_kept k)
