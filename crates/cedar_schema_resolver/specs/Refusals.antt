-- What a refusal tells: the fault that is there.
-- Rule: well-formed declarations (docs/RULES.md).
use Rattle.std.specs.Prelude.{◌≡◌, ◌⊎◌, List, true, Contains}
use Rattle.cedar_expr_model.specs.Name.{Name, is_reserved}
use Rattle.cedar_expr_names.specs.Views.{plain_name_of, refused_name_of}
use Rattle.cedar_schema_model.specs.Reference.{meant_entity}
use Rattle.cedar_schema_model.specs.Declarations.{extensions_in}
use Rattle.cedar_schema_decl.specs.Defined.{Defined}
use Rattle.cedar_schema_decl.specs.Forms.{TypeForm}
use Rattle.cedar_schema_decl.specs.Laws.{as_expr}
use Rattle.cedar_schema_resolver.specs.Meanings.{Setting, meant_in}
use Rattle.cedar_schema_resolver.specs.declared.err.ResolveError.{ResolveError}
use Rattle.cedar_schema_resolver.specs.declared.err.ResolveError.TheVariants.{OutOfMemory, UnknownExtensionType, ReservedName, DuplicateCommonType, CycleInCommonTypeReferences}

-- the extension types that a type names
abbrev pub extensions_of : TypeForm Name → List Name
extensions_of t = extensions_in (as_expr t)

-- each of them is one of these
pub record AreKnown (x : List Name) (t : TypeForm Name) : Type 0 where
  pub each : (n : Name) → Contains (extensions_of t) n → Contains x n

-- The type names an extension type that isn't one of these.
abbrev pub IsUnknownIn : List Name → TypeForm Name → Name → Type 0
IsUnknownIn x t n = Contains (extensions_of t) n × (Contains x n → ⊥)

-- A reserved name is that of an entity type that the type refers to, or of an extension type in it.
abbrev pub IsReservedIn : Defined → TypeForm Name → Name → Type 0
IsReservedIn d t n = (is_reserved n ≡ true) × (Contains (meant_in d t) (meant_entity n) ⊎ Contains (extensions_of t) n)

-- The error tells a fault of the type. Out of memory tells none.
abbrev pub TellsUntold : Setting → TypeForm Name → ResolveError → Type 0
TellsUntold s t OutOfMemory = Unit {0}
TellsUntold s t (UnknownExtensionType n) = IsUnknownIn s.extensions t (plain_name_of n)
TellsUntold s t (ReservedName e) = IsReservedIn s.defined t (refused_name_of e)
TellsUntold s t (DuplicateCommonType n) = ⊥
TellsUntold s t (CycleInCommonTypeReferences n) = ⊥
