-- What the laws say: a solution is what the declarations say of the common types, and a refusal is a fault of theirs.
-- Rule: schemas; well-formed declarations (docs/RULES.md).
use Rattle.std.specs.Prelude.{◌≡◌, ◌↔◌, ◌⊎◌, List, [], ◌∷◌, true, Option, Some, None, Contains}
use Rattle.std.specs.declared.result.Result.TheVariants.{Ok}
use Rattle.cedar_expr_model.specs.Name.{Name, is_reserved}
use Rattle.cedar_expr_names.specs.Views.{plain_name_of, refused_name_of}
use Rattle.cedar_schema_model.specs.BagLaws.{Uses, HasSchemaFault}
use Rattle.cedar_schema_model.specs.Declarations.{TypeExpr, CommonDeclaration, Declarations, common_name, entity_names, extensions_in}
use Rattle.cedar_schema_model.specs.Resolved.{common_of, resolved}
use Rattle.cedar_schema_model.specs.WellFormed.{SchemaFault, duplicate_common_type, cycle_of_common_types, reserved_name, unknown_extension_type}
use Rattle.cedar_schema_decl.specs.Defined.{Defined}
use Rattle.cedar_schema_decl.specs.Forms.{TypeForm}
use Rattle.cedar_schema_decl.specs.Laws.{HasDeclared, namespace_parts, as_expr, resolved_in}
use Rattle.cedar_schema_resolver.specs.Meanings.{Setting, told}
use Rattle.cedar_schema_resolver.specs.Refusals.{TellsUntold}
use Rattle.cedar_schema_resolver.specs.Solved.{IsSolved, TellsUnsolved}
use Rattle.cedar_schema_resolver.specs.Uses.{UsesIn}
use Rattle.cedar_schema_resolver.specs.declared.err.ResolveError.{ResolveError}
use Rattle.cedar_schema_resolver.specs.declared.err.ResolveError.TheVariants.{OutOfMemory, UnknownExtensionType, ReservedName, DuplicateCommonType, CycleInCommonTypeReferences}

-- The name with the type writes a declared common type: the type is its definition, written in its namespace, with names resolved.
pub record IsWrittenAs (d : Defined) (c : CommonDeclaration) (p : Name × TypeForm Name) : Type 0 where
  pub space : Option Name
  pub form : TypeForm Name
  pub name : p.0 ≡ common_name c
  pub namespace : namespace_parts space ≡ c.namespace
  pub definition : as_expr form ≡ c.definition
  pub resolved : resolved_in d space form ≡ Ok p.1

-- The names with their types write these declared common types, one by one.
abbrev pub AreWrittenAs : Defined → List CommonDeclaration → List (Name × TypeForm Name) → Type 0
AreWrittenAs d [] [] = Unit {0}
AreWrittenAs d (c ∷ cs) (p ∷ ps) = IsWrittenAs d c p × AreWrittenAs d cs ps
AreWrittenAs d cs ps = ⊥

-- These sets have what the declarations declare, and these types are those of their common types.
pub record WritesCommons (d : Defined) (e : Declarations) (ts : List (Name × TypeForm Name)) : Type 0 where
  pub declared : HasDeclared d e
  pub commons : AreWrittenAs d e.commons ts

-- A solution is what the declarations say of each name, so there is one at most.
abbrev pub SolutionsAreCommonTypes : Type 0
SolutionsAreCommonTypes = (s : Setting) (e : Declarations) (ts : List (Name × TypeForm Name)) → WritesCommons s.defined e ts → IsSolved s ts → (n : Name) → s.commons n ≡ common_of e n

-- With it a type whose names are resolved tells the type that is declared.
abbrev pub SolvedTypesAreResolved : Type 0
SolvedTypesAreResolved = (s : Setting) (e : Declarations) (ts : List (Name × TypeForm Name)) → WritesCommons s.defined e ts → IsSolved s ts
    → (space : Option Name) (t r : TypeForm Name) → resolved_in s.defined space t ≡ Ok r → told s r ≡ resolved e (namespace_parts space) (as_expr t)

-- One uses another exactly where it does by the declarations.
abbrev pub UsesAreDeclared : Type 0
UsesAreDeclared = (d : Defined) (e : Declarations) (ts : List (Name × TypeForm Name)) → WritesCommons d e ts → (m n : Name) → UsesIn d ts m n ↔ Uses e m n

-- the fault of declarations that an error tells. Out of memory tells none.
abbrev pub fault_told : ResolveError → Option SchemaFault
fault_told OutOfMemory = None
fault_told (UnknownExtensionType n) = Some unknown_extension_type
fault_told (ReservedName e) = Some reserved_name
fault_told (DuplicateCommonType n) = Some duplicate_common_type
fault_told (CycleInCommonTypeReferences n) = Some cycle_of_common_types

-- The fault that an error tells is there.
abbrev pub RefusalsAreFaults : Type 0
RefusalsAreFaults = (d : Defined) (x : List Name) (e : Declarations) (ts : List (Name × TypeForm Name)) → WritesCommons d e ts
    → (r : ResolveError) → TellsUnsolved d x ts r → (f : SchemaFault) → fault_told r ≡ Some f → HasSchemaFault x e f

-- The error tells of a written type that an extension type in it isn't one of these, or that a declared entity type or an extension
-- type in it is reserved.
abbrev pub TellsWritten : List Name → Declarations → TypeExpr → ResolveError → Type 0
TellsWritten x e t OutOfMemory = Unit {0}
TellsWritten x e t (UnknownExtensionType n) = Contains (extensions_in t) (plain_name_of n) × (Contains x (plain_name_of n) → ⊥)
TellsWritten x e t (ReservedName r) = (is_reserved (refused_name_of r) ≡ true) × (Contains (entity_names e) (refused_name_of r) ⊎ Contains (extensions_in t) (refused_name_of r))
TellsWritten x e t (DuplicateCommonType n) = ⊥
TellsWritten x e t (CycleInCommonTypeReferences n) = ⊥

-- What is told of a type whose names are resolved is so of the type that is written.
abbrev pub RefusalsAreWritten : Type 0
RefusalsAreWritten = (s : Setting) (e : Declarations) → HasDeclared s.defined e → (space : Option Name) (t r : TypeForm Name) → resolved_in s.defined space t ≡ Ok r → (f : ResolveError) → TellsUntold s r f → TellsWritten s.extensions e (as_expr t) f
