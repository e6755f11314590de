-- What the definitions of common types use.
-- Rule: well-formed declarations (docs/RULES.md).
use Rattle.std.specs.Prelude.{List, [], ◌∷◌, map, Contains, if◌then◌else◌}
use Rattle.std.specs.List.{list_any}
use Rattle.cedar_expr_model.specs.Name.{Name, name_eq}
use Rattle.cedar_expr_names.specs.Views.{name_of}
use Rattle.cedar_expr_names.specs.declared.internal_name.InternalName.{InternalName}
use Rattle.cedar_schema_model.specs.Reference.{Meant, meant_common, meant_entity}
use Rattle.cedar_schema_decl.specs.Defined.{Defined}
use Rattle.cedar_schema_decl.specs.Definitions.{common_form}
use Rattle.cedar_schema_decl.specs.Forms.{TypeForm}
use Rattle.cedar_schema_decl.specs.declared.json_schema.CommonType.{CommonType}
use Rattle.cedar_schema_resolver.specs.Meanings.{meant_in}

-- common types with their names
abbrev pub common_forms : List (InternalName × CommonType InternalName) → List (Name × TypeForm Name)
common_forms es = map (λ e. (name_of e.0, common_form name_of e.1)) es

-- The definition of one refers to the other.
abbrev pub UsesIn : Defined → List (Name × TypeForm Name) → Name → Name → Type 0
UsesIn d ts m n = (t : TypeForm Name) × Contains ts (m, t) × Contains (meant_in d t) (meant_common n)

-- the common types among these
abbrev pub commons_among : List Meant → List Name
commons_among [] = []
commons_among (meant_common n ∷ ms) = n ∷ commons_among ms
commons_among (meant_entity n ∷ ms) = commons_among ms

-- the common types that a type refers to
abbrev pub commons_in : Defined → TypeForm Name → List Name
commons_in d t = commons_among (meant_in d t)

-- a name, if a common type is declared under it
abbrev pub common_named : Defined → Name → List Name
common_named d n = if list_any (name_eq n) d.commons then n ∷ [] else []

-- each with those that it refers to
abbrev pub with_uses : Defined → List (Name × TypeForm Name) → List (Name × List Name)
with_uses d ts = map (λ p. (p.0, commons_in d p.1)) ts
