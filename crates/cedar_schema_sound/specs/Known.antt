-- All attributes that a schema declares for the values of a type.
-- Rule: attributes of a type; schemas (docs/RULES.md).
use Rattle.std.specs.Prelude.{◌≡◌, List, [], ◌∷◌, map, Option, None, option_map}
use Rattle.std.specs.List.{filter_map}
use Rattle.cedar_expr_model.specs.Name.{Text, Name}
use Rattle.cedar_schema_model.specs.Types.{Ty, Attributes, Declared, attribute_named}
use Rattle.cedar_schema_model.specs.Schema.{Schema, type_named}
use Rattle.cedar_schema_model.specs.Conforming.{of_kind, attributes_at}
use Rattle.cedar_schema_model.specs.Lookup.{lookup_attribute}
use Rattle.cedar_schema_model.specs.Kept.{Kept}

-- These are all attributes that are declared for the values of the type, each as it is declared.
pub record AreDeclared (s : Schema) (t : Ty) (as_ : Attributes) : Type 0 where
  pub each : (a : Text) → attribute_named a as_ ≡ lookup_attribute s t a

-- what is declared of each of these names, of those of which anything is
abbrev pub declared_among : (Text → Option Declared) → List Text → List (Text × Declared)
declared_among f as_ = filter_map (λ a. option_map (λ d. (a, d)) (f a)) as_

-- the attributes of the first of these entity types, if it is declared
abbrev pub first_declared : Schema → List Name → Option Attributes
first_declared s [] = None
first_declared s (n ∷ ns) = option_map (λ e. attributes_at (of_kind e.kind)) (type_named s n)

-- What is kept of entity types, as a schema that says the same of attributes.
abbrev pub attributes_kept : Kept → Schema
attributes_kept k = record { types = map (λ t. record { name = t.name; parents = []; kind = t.kind }) k.types; actions = [] }
