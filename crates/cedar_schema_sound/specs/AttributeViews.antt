-- What a built schema declares of attributes.
-- Rule: attributes of a type; schemas (docs/RULES.md).
use Rattle.cedar_schema_model.specs.Schema.{Schema}
use Rattle.cedar_schema_built.specs.Views.{schema_kept}
use Rattle.cedar_schema_sound.specs.Known.{attributes_kept}
use Rattle.cedar_schema_sound.specs.declared.schema_attributes.SchemaAttributes.{SchemaAttributes}

abbrev pub attributes_declared : SchemaAttributes → Schema
attributes_declared s = attributes_kept (schema_kept s.schema.now)
