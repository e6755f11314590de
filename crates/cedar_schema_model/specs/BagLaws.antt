-- What the laws on bags of declarations and on their schemas say.
-- Rule: references; declarations; well-formed declarations; schemas (docs/RULES.md).
use Rattle.std.specs.Prelude.{◌≡◌, ◌↔◌, suc, List, [], ◌∷◌, ◌++◌, length, true, false, not, Option, Some, Contains, is_some, ◌&&◌, Bool, None}
use Rattle.std.specs.Bool.{Decides}
use Rattle.std.specs.List.Sorted.{IsPermutation}
use Rattle.std.proofs.Common.{◌⊎◌}
use Rattle.cedar_expr_model.specs.Name.{Name, is_reserved}
use Rattle.cedar_expr_model.specs.Uid.{Uid}
use Rattle.cedar_schema_model.specs.Types.{record_type, is_closed, Ty, set_type, Attributes, no_attributes, attribute}
use Rattle.cedar_schema_model.specs.Schema.{Action, type_named, action_with, declares_type}
use Rattle.cedar_schema_model.specs.Descent.{type_names, Reaches, HasParent, HasActionParent, Descends, ActionDescends}
use Rattle.cedar_schema_model.specs.Descent as descent
use Rattle.cedar_schema_model.specs.Reference.{Namespace, Reference, Meant, candidates, action_candidates, action_word, meant_common}
use Rattle.cedar_schema_model.specs.Declarations.{CommonDeclaration, EntityDeclaration, ActionDeclaration, Declarations, bag, common_name, entity_name, entity_names, action_uids, is_declared, is_declared_action, meant, parent_meant, TypeExpr, action_uid, common_names, references_of_common, references, extensions}
use Rattle.cedar_schema_model.specs.WellFormed.{SchemaFault, ill_forms, has_schema_fault, IsWellFormed, well_formed, duplicate_entity_type, duplicate_common_type, duplicate_action, undeclared_type, undeclared_action, cycle_of_common_types, cycle_of_actions, action_as_entity_type, context_not_record, reserved_name, shadowing, unknown_extension_type, unresolved_external, becomes_record, written_names, unqualified_uid, declared_types, is_external_kind}
use Rattle.cedar_schema_model.specs.Resolved.{common_within, common_of, resolved, entity_meant, resolved_action, schema_of}
use Rattle.cedar_schema_model.specs.OfLaws.Formed.{is_before_attributes}
use Rattle.cedar_expr_model.specs.Names.{unqualified, is_unqualified}

-- It is the first that passes: those before it don't.
abbrev pub IsFirst : {X : Type 0} → (X → Bool) → List X → X → Type 0
IsFirst test [] y = ⊥
IsFirst test (x ∷ xs) y = ((test x ≡ true) × (y ≡ x)) ⊎ ((test x ≡ false) × IsFirst test xs y)

-- a reference means the first that is declared, and no other
abbrev pub FirstDeclaredIsMeant : Type 0
FirstDeclaredIsMeant = (d : Declarations) (r : Reference) (m : Meant) → (meant d r ≡ Some m) ↔ IsFirst (is_declared d) (candidates r) m

abbrev pub FirstActionIsMeant : Type 0
FirstActionIsMeant = (d : Declarations) (ns : Namespace) (u v : Uid) → (parent_meant d ns u ≡ Some v) ↔ IsFirst (is_declared_action d) (action_candidates ns u) v

-- one of them is repeated
abbrev pub HasTwice : {X : Type 0} → List X → Type 0
HasTwice [] = ⊥
HasTwice (x ∷ xs) = Contains xs x ⊎ HasTwice xs

-- The faults of declarations, read directly. The definition of a common type refers to another.
abbrev pub Uses : Declarations → Name → Name → Type 0
Uses d m n = (c : CommonDeclaration) × Contains d.commons c × (m ≡ common_name c) × ((r : Reference) × Contains (references_of_common c) r × (meant d r ≡ Some (meant_common n)))

-- an action has another as its parent
abbrev pub HasParentAction : Declarations → Uid → Uid → Type 0
HasParentAction d u v = (a : ActionDeclaration) × Contains d.actions a × (u ≡ action_uid a) × ((w : Uid) × Contains a.parents w × (parent_meant d a.namespace w ≡ Some v))

-- a type or an action of a namespace stands in the empty one too
abbrev pub Shadows : Declarations → Type 0
Shadows d = ((n : Name) × Contains (declared_types d) n × (not (is_unqualified n) ≡ true) × Contains (declared_types d) (unqualified n.base))
    ⊎ ((u : Uid) × Contains (action_uids d) u × (not (is_unqualified u.kind) ≡ true) × Contains (action_uids d) (unqualified_uid u))

abbrev pub HasSchemaFault : List Name → Declarations → SchemaFault → Type 0
HasSchemaFault x d duplicate_entity_type = HasTwice (entity_names d)
HasSchemaFault x d duplicate_common_type = HasTwice (common_names d)
HasSchemaFault x d duplicate_action = HasTwice (action_uids d)
HasSchemaFault x d undeclared_type = (r : Reference) × Contains (references d) r × (meant d r ≡ None)
HasSchemaFault x d undeclared_action = (a : ActionDeclaration) × Contains d.actions a × ((u : Uid) × Contains a.parents u × (parent_meant d a.namespace u ≡ None))
HasSchemaFault x d cycle_of_common_types = (n : Name) × Reaches (Uses d) n n
HasSchemaFault x d cycle_of_actions = (u : Uid) × Reaches (HasParentAction d) u u
HasSchemaFault x d action_as_entity_type = (t : EntityDeclaration) × Contains d.entities t × (action_word ≡ t.word)
HasSchemaFault x d context_not_record = (a : ActionDeclaration) × Contains d.actions a × (becomes_record d a ≡ false)
HasSchemaFault x d reserved_name = (n : Name) × Contains (written_names d) n × (is_reserved n ≡ true)
HasSchemaFault x d shadowing = Shadows d
HasSchemaFault x d unknown_extension_type = (n : Name) × Contains (extensions d) n × (Contains x n → ⊥)
HasSchemaFault x d unresolved_external = ((t : EntityDeclaration) × Contains d.entities t × (is_external_kind t.kind ≡ true)) ⊎ ((a : ActionDeclaration) × Contains d.actions a × (a.is_external ≡ true))

-- the tests decide which faults are there, and whether one is
abbrev pub SchemaFaultsDecide : Type 0
SchemaFaultsDecide = (x : List Name) (d : Declarations) (f : SchemaFault) → Decides (has_schema_fault x d f) (HasSchemaFault x d f)

abbrev pub WellFormedDecides : Type 0
WellFormedDecides = (x : List Name) (d : Declarations) → Decides (well_formed x d) (IsWellFormed x d)

abbrev pub WellFormedIsFaultless : Type 0
WellFormedIsFaultless = (x : List Name) (d : Declarations) → IsWellFormed x d ↔ ((f : SchemaFault) → Contains ill_forms f → HasSchemaFault x d f → ⊥)

-- Two declarations are the same but for their order.
pub record IsReordered (d e : Declarations) : Type 0 where
  pub commons : IsPermutation d.commons e.commons
  pub entities : IsPermutation d.entities e.entities
  pub actions : IsPermutation d.actions e.actions

-- they have the same faults
abbrev pub OrderHidesNoFault : Type 0
OrderHidesNoFault = (x : List Name) (d e : Declarations) → IsReordered d e → (f : SchemaFault) → HasSchemaFault x d f ↔ HasSchemaFault x e f

-- a fragment may be split, wherever it stands
abbrev pub SplittingIsFree : Type 0
SplittingIsFree = (before after : List Declarations) (d e : Declarations) → bag (before ++ bag (d ∷ e ∷ []) ∷ after) ≡ bag (before ++ d ∷ e ∷ after)

-- neighbouring fragments may change places, and so all of them
abbrev pub FragmentsMayMove : Type 0
FragmentsMayMove = (before after : List Declarations) (d e : Declarations) → IsReordered (bag (before ++ d ∷ e ∷ after)) (bag (before ++ e ∷ d ∷ after))

abbrev pub OrderIsTransitive : Type 0
OrderIsTransitive = (c d e : Declarations) → IsReordered c d → IsReordered d e → IsReordered c e

-- where declarations are well-formed, a common type is what its definition says, and replacing once more changes nothing
abbrev pub CommonTypesAreDefined : Type 0
CommonTypesAreDefined = (x : List Name) (d : Declarations) → IsWellFormed x d → (c : CommonDeclaration) → Contains d.commons c → common_of d (common_name c) ≡ resolved d c.namespace c.definition

abbrev pub NoMoreToReplace : Type 0
NoMoreToReplace = (x : List Name) (d : Declarations) → IsWellFormed x d → (n : Name) → common_within (suc (length d.commons)) d n ≡ common_of d n

-- the context of each action is a closed record
abbrev pub ContextsAreRecords : Type 0
ContextsAreRecords = (x : List Name) (d : Declarations) → IsWellFormed x d → (a : ActionDeclaration) → Contains d.actions a → resolved d a.namespace a.context ≡ record_type (resolved_action d a).context is_closed

-- the schema has the declared types and actions, with the parents that are meant
abbrev pub SameTypes : Type 0
SameTypes = (d : Declarations) → type_names (schema_of d) ≡ entity_names d

abbrev pub SameActions : Type 0
SameActions = (d : Declarations) → descent.action_uids (schema_of d) ≡ action_uids d

abbrev pub IsDeclaredParent : Declarations → Name → Name → Type 0
IsDeclaredParent d m n = (t : EntityDeclaration) × Contains d.entities t × (m ≡ entity_name t) × ((w : Name) × Contains t.parents w × (entity_meant d t.namespace w ≡ Some n))

abbrev pub ParentsAreMeant : Type 0
ParentsAreMeant = (d : Declarations) (m n : Name) → HasParent (schema_of d) m n ↔ IsDeclaredParent d m n

abbrev pub ActionParentsAreMeant : Type 0
ActionParentsAreMeant = (d : Declarations) (u v : Uid) → HasActionParent (schema_of d) u v ↔ HasParentAction d u v

-- where declarations are well-formed no action descends from itself, and no type of an action is a declared entity type
abbrev pub NoActionIsItsAncestor : Type 0
NoActionIsItsAncestor = (x : List Name) (d : Declarations) → IsWellFormed x d → (u : Uid) → ActionDescends (schema_of d) u u → ⊥

abbrev pub ActionTypesAreApart : Type 0
ActionTypesAreApart = (x : List Name) (d : Declarations) → IsWellFormed x d → (u : Uid) → Contains (action_uids d) u → declares_type (schema_of d) u.kind ≡ false

-- declarations in another order make the same schema: each look-up in it answers the same
abbrev pub SameTypesFound : Type 0
SameTypesFound = (x : List Name) (d e : Declarations) → IsReordered d e → IsWellFormed x d → (n : Name) → type_named (schema_of d) n ≡ type_named (schema_of e) n

abbrev pub SameActionsFound : Type 0
SameActionsFound = (x : List Name) (d e : Declarations) → IsReordered d e → IsWellFormed x d → (u : Uid) → action_with (schema_of d) u ≡ action_with (schema_of e) u

-- what the schema names is declared in it: what types and actions descend from, and the types that actions list
abbrev pub AncestorTypesAreDeclared : Type 0
AncestorTypesAreDeclared = (d : Declarations) (m n : Name) → Descends (schema_of d) m n → Contains (type_names (schema_of d)) n

abbrev pub AncestorActionsAreDeclared : Type 0
AncestorActionsAreDeclared = (d : Declarations) (u v : Uid) → ActionDescends (schema_of d) u v → Contains (descent.action_uids (schema_of d)) v

abbrev pub ListedTypesAreDeclared : Type 0
ListedTypesAreDeclared = (d : Declarations) (a : Action) → Contains (schema_of d).actions a → (n : Name) → Contains a.principals n ⊎ Contains a.resources n → Contains (type_names (schema_of d)) n

-- each of these means something
abbrev pub KeepsEach : {X Y : Type 0} → (X → Option Y) → List X → Type 0
KeepsEach {X} f xs = (x : X) → Contains xs x → is_some (f x) ≡ true

-- where declarations are well-formed no parent and no listed type that is written is left out of the schema
abbrev pub NoParentIsDropped : Type 0
NoParentIsDropped = (x : List Name) (d : Declarations) → IsWellFormed x d → (t : EntityDeclaration) → Contains d.entities t → KeepsEach (entity_meant d t.namespace) t.parents

abbrev pub NothingOfActionsIsDropped : Type 0
NothingOfActionsIsDropped = (x : List Name) (d : Declarations) → IsWellFormed x d → (a : ActionDeclaration) → Contains d.actions a
    → KeepsEach (parent_meant d a.namespace) a.parents × KeepsEach (entity_meant d a.namespace) a.principals × KeepsEach (entity_meant d a.namespace) a.resources

-- The attributes of a type rise by name, at every nesting.
abbrev mutual
  pub has_rising : Ty → Bool
  has_rising (set_type t) = has_rising t
  has_rising (record_type as_ o) = are_rising as_
  has_rising t = true

  pub are_rising : Attributes → Bool
  are_rising no_attributes = true
  are_rising (attribute a t r as_) = has_rising t && (is_before_attributes a as_ && are_rising as_)

-- the types of a schema do
abbrev pub ResolvedTypesRise : Type 0
ResolvedTypesRise = (d : Declarations) (ns : Namespace) (t : TypeExpr) → has_rising (resolved d ns t) ≡ true
