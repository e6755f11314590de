-- What an error names, and what is at fault in declarations under that name.
-- Rule: well-formed declarations (docs/RULES.md).
use Rattle.std.specs.Prelude.{◌≡◌, List, true, false, not, Contains}
use Rattle.std.specs.Rc.{rc_str_bytes}
use Rattle.cedar_expr_model.specs.Name.{Name}
use Rattle.cedar_expr_model.specs.Uid.{Uid}
use Rattle.cedar_expr_model.specs.Names.{unqualified, is_unqualified}
use Rattle.cedar_expr_names.specs.Views.{name_of, plain_name_of, refused_name_of, uid_of}
use Rattle.cedar_schema_model.specs.BagLaws.{Uses, HasParentAction, HasSchemaFault}
use Rattle.cedar_schema_model.specs.Declarations.{ActionDeclaration, Declarations, action_uid, common_names, entity_names, action_uids, extensions}
use Rattle.cedar_schema_model.specs.Descent.{Reaches}
use Rattle.cedar_schema_model.specs.WellFormed.{becomes_record, unqualified_uid, declared_types}
use Rattle.cedar_schema_decl.specs.Conditional.{conditional_of}
use Rattle.cedar_schema_builder.specs.GatheredNamed.{IsUndeclared, IsUndeclaredParent, IsReservedThere, IsActionType}
use Rattle.cedar_schema_resolver.specs.Numbers.{StandsTwice}
use Rattle.cedar_schema_builder.specs.Faults.{Tells}
use Rattle.cedar_schema_builder.specs.declared.err.SchemaError.{SchemaError}
use Rattle.cedar_schema_builder.specs.declared.err.SchemaError.TheVariants.{OutOfMemory, DuplicateEntityType, DuplicateCommonType, DuplicateAction, TypeNotDefined, ActionNotDefined, CycleInCommonTypeReferences, CycleInActionHierarchy, ActionEntityTypeDeclared, ContextNotRecord, ReservedName, TypeShadowing, ActionShadowing, UnknownExtensionType}

-- a type of this name is declared in a namespace, and one of its last name in the empty one
abbrev pub IsTypeShadowing : Declarations → Name → Type 0
IsTypeShadowing d n = Contains (declared_types d) n × (not (is_unqualified n) ≡ true) × Contains (declared_types d) (unqualified n.base)

-- this action is declared in a namespace, and one of its id in the empty one
abbrev pub IsActionShadowing : Declarations → Uid → Type 0
IsActionShadowing d u = Contains (action_uids d) u × (not (is_unqualified u.kind) ≡ true) × Contains (action_uids d) (unqualified_uid u)

-- the context of this action is declared, and doesn't become a record
abbrev pub HasOtherContext : Declarations → Uid → Type 0
HasOtherContext d u = (a : ActionDeclaration) × Contains d.actions a × (action_uid a ≡ u) × (becomes_record d a ≡ false)

-- What the error names is at fault in the declarations. Out of memory names nothing.
abbrev pub NamesFault : List Name → Declarations → SchemaError → Type 0
NamesFault x d OutOfMemory = Unit {0}
NamesFault x d (DuplicateEntityType n) = StandsTwice (entity_names d) (name_of n)
NamesFault x d (DuplicateCommonType n) = StandsTwice (common_names d) (name_of n)
NamesFault x d (DuplicateAction u) = StandsTwice (action_uids d) (uid_of u)
NamesFault x d (TypeNotDefined c) = IsUndeclared d (conditional_of c)
NamesFault x d (ActionNotDefined c id) = IsUndeclaredParent d (conditional_of c, rc_str_bytes id)
NamesFault x d (CycleInCommonTypeReferences n) = Reaches (Uses d) (name_of n) (name_of n)
NamesFault x d (CycleInActionHierarchy u) = Reaches (HasParentAction d) (uid_of u) (uid_of u)
NamesFault x d (ActionEntityTypeDeclared n) = IsActionType d (name_of n)
NamesFault x d (ContextNotRecord u) = HasOtherContext d (uid_of u)
NamesFault x d (ReservedName e) = IsReservedThere d (refused_name_of e)
NamesFault x d (TypeShadowing n) = IsTypeShadowing d (name_of n)
NamesFault x d (ActionShadowing u) = IsActionShadowing d (uid_of u)
NamesFault x d (UnknownExtensionType n) = Contains (extensions d) (plain_name_of n) × (Contains x (plain_name_of n) → ⊥)

-- Where what it names is at fault, the fault that it reports is there.
abbrev pub NamedAreFaults : Type 0
NamedAreFaults = (x : List Name) (d : Declarations) (e : SchemaError) → NamesFault x d e → Tells (HasSchemaFault x d) e
