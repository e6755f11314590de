-- What common types stand for, by their definitions.
-- Rule: schemas; well-formed declarations (docs/RULES.md).
use Rattle.std.specs.Prelude.{◌≡◌, ℕ, true, List, Option, None, map, is_some, Contains}
use Rattle.cedar_expr_model.specs.Name.{Name}
use Rattle.cedar_expr_names.specs.Views.{name_of, plain_name_of, refused_name_of}
use Rattle.cedar_schema_model.specs.Types.{Ty, never}
use Rattle.cedar_schema_model.specs.BagLaws.{HasTwice}
use Rattle.cedar_schema_model.specs.Descent.{Reaches}
use Rattle.cedar_schema_resolver.specs.Graphs.{Graph, IsOrder}
use Rattle.cedar_schema_decl.specs.Defined.{Defined}
use Rattle.cedar_schema_decl.specs.Forms.{TypeForm}
use Rattle.cedar_schema_resolver.specs.Descent.{IsGraphOf}
use Rattle.cedar_schema_resolver.specs.Numbers.{StandsTwice}
use Rattle.cedar_schema_resolver.specs.Meanings.{Setting, told}
use Rattle.cedar_schema_resolver.specs.Refusals.{AreKnown, IsUnknownIn, IsReservedIn}
use Rattle.cedar_schema_resolver.specs.Uses.{UsesIn, with_uses}
use Rattle.cedar_schema_resolver.specs.declared.err.ResolveError.{ResolveError}
use Rattle.cedar_schema_resolver.specs.declared.err.ResolveError.TheVariants.{OutOfMemory, UnknownExtensionType, ReservedName, DuplicateCommonType, CycleInCommonTypeReferences}

-- these names
abbrev pub names_of : List (Name × TypeForm Name) → List Name
names_of ts = map (λ p. p.0) ts

-- Each common type stands for the type that its definition tells, and no other name for a type. None is declared twice, none uses
-- itself, by way of others or straight, and all extension types are known.
pub record IsSolved (s : Setting) (ts : List (Name × TypeForm Name)) : Type 0 where
  pub solves : (n : Name) (t : TypeForm Name) → Contains ts (n, t) → s.commons n ≡ told s t
  pub others : (n : Name) → (Contains (names_of ts) n → ⊥) → s.commons n ≡ never
  pub once : HasTwice (names_of ts) → ⊥
  pub apart : (n : Name) → Reaches (UsesIn s.defined ts) n n → ⊥
  pub known : (n : Name) (t : TypeForm Name) → Contains ts (n, t) → AreKnown s.extensions t

-- A type is kept under the name of each of them, and under no other.
pub record AreKept (ts : List (Name × TypeForm Name)) (kept : Name → Option Ty) : Type 0 where
  pub each : (n : Name) (t : TypeForm Name) → Contains ts (n, t) → is_some (kept n) ≡ true
  pub others : (n : Name) → (Contains (names_of ts) n → ⊥) → kept n ≡ None

-- a definition of which this holds
abbrev pub SomeDefinition : List (Name × TypeForm Name) → (TypeForm Name → Type 0) → Type 0
SomeDefinition ts holds = (p : Name × TypeForm Name) × Contains ts p × holds p.1

-- The error tells a fault of the common types. Out of memory tells none.
abbrev pub TellsUnsolved : Defined → List Name → List (Name × TypeForm Name) → ResolveError → Type 0
TellsUnsolved d x ts OutOfMemory = Unit {0}
TellsUnsolved d x ts (UnknownExtensionType n) = SomeDefinition ts (λ t. IsUnknownIn x t (plain_name_of n))
TellsUnsolved d x ts (ReservedName e) = SomeDefinition ts (λ t. IsReservedIn d t (refused_name_of e))
TellsUnsolved d x ts (DuplicateCommonType n) = StandsTwice (names_of ts) (name_of n)
TellsUnsolved d x ts (CycleInCommonTypeReferences n) = Reaches (UsesIn d ts) (name_of n) (name_of n)

-- The error tells a fault of the common types where what their types write isn't asked. Out of memory tells none.
abbrev pub TellsUnordered : Defined → List (Name × TypeForm Name) → ResolveError → Type 0
TellsUnordered d ts OutOfMemory = Unit {0}
TellsUnordered d ts (UnknownExtensionType n) = ⊥
TellsUnordered d ts (ReservedName e) = ⊥
TellsUnordered d ts (DuplicateCommonType n) = StandsTwice (names_of ts) (name_of n)
TellsUnordered d ts (CycleInCommonTypeReferences n) = Reaches (UsesIn d ts) (name_of n) (name_of n)

-- All of them, by their numbers, each once and after those that it uses. None is repeated.
pub record AreSorted (d : Defined) (ts : List (Name × TypeForm Name)) (is : List ℕ) : Type 0 where
  pub graph : Graph
  pub is_graph : IsGraphOf (with_uses d ts) graph
  pub is_order : IsOrder graph is
  pub once : HasTwice (names_of ts) → ⊥
