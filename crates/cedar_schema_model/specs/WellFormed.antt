-- When declarations are well-formed: the faults of a bag.
-- Rule: well-formed declarations (docs/RULES.md).
use Rattle.std.specs.Prelude.{◌≡◌, ◌&&◌, ◌||◌, ℕ, zero, suc, List, [], ◌∷◌, ◌++◌, map, length, Bool, true, false, not, Option, Some, Contains, is_none, is_some}
use Rattle.std.specs.List.{flat_map, list_any, list_all}
use Rattle.std.specs.Str.{bytes_eq}
use Rattle.cedar_expr_model.specs.Name.{Name, name_eq, is_reserved}
use Rattle.cedar_expr_model.specs.Uid.{Uid, uid_eq}
use Rattle.cedar_schema_model.specs.Descent.{reaches}
use Rattle.cedar_schema_model.specs.Reference.{Namespace, action_word, ReferenceKind, Meant, meant_common}
use Rattle.cedar_schema_model.specs.Declarations.{TypeExpr, record_expr, reference, CommonDeclaration, KindExpr, external_expr, ActionDeclaration, Declarations, common_name, action_uid, common_names, entity_names, action_uids, meant, parent_meant, references_of_common, references, extensions}
use Rattle.std.specs.Option.{option_eq}
use Rattle.cedar_expr_model.specs.Names.{is_unqualified, unqualified}
use Rattle.cedar_expr_model.specs.Repeats.{repeated}

-- The faults of declarations.
pub data SchemaFault : Type 0 where
  duplicate_entity_type duplicate_common_type duplicate_action undeclared_type undeclared_action cycle_of_common_types cycle_of_actions : SchemaFault
  action_as_entity_type context_not_record reserved_name shadowing unknown_extension_type unresolved_external : SchemaFault

-- the faults of declarations that are ill-formed; an external declaration is none of them
abbrev pub ill_forms : List SchemaFault
ill_forms = duplicate_entity_type ∷ duplicate_common_type ∷ duplicate_action ∷ undeclared_type ∷ undeclared_action ∷ cycle_of_common_types
    ∷ cycle_of_actions ∷ action_as_entity_type ∷ context_not_record ∷ reserved_name ∷ shadowing ∷ unknown_extension_type ∷ []

-- a reference means this common type
abbrev pub is_common : Name → Option Meant → Bool
is_common n (Some (meant_common m)) = name_eq m n
is_common n o = false

-- the definition of a common type refers to another
abbrev pub uses : Declarations → Name → Name → Bool
uses d m n = list_any (λ c. name_eq m (common_name c) && list_any (λ r. is_common n (meant d r)) (references_of_common c)) d.commons

-- an action has another as its parent
abbrev pub has_parent_action : Declarations → Uid → Uid → Bool
has_parent_action d u v = list_any (λ a. uid_eq u (action_uid a) && list_any (λ w. option_eq uid_eq (parent_meant d a.namespace w) (Some v)) a.parents) d.actions

-- a reference means a common type, and the test holds of each declaration of it
abbrev pub refers_to_record : (CommonDeclaration → Bool) → Declarations → Option Meant → Bool
refers_to_record test d (Some (meant_common n)) = list_all (λ c. not (name_eq n (common_name c)) || test c) d.commons
refers_to_record test d o = false

-- written as a record, or as a reference that refers to one
abbrev pub is_written_record : (Namespace → ReferenceKind → Name → Bool) → Namespace → TypeExpr → Bool
is_written_record refers ns (record_expr fs) = true
is_written_record refers ns (reference k n) = refers ns k n
is_written_record refers ns t = false

-- A type is a record by way of this many common types or fewer: it is written as one, or refers to a common type of which the
-- definition is.
abbrev pub is_record_within : ℕ → Declarations → Namespace → TypeExpr → Bool
is_record_within zero d = is_written_record (λ ns k n. false)
is_record_within (suc m) d = is_written_record (λ ns k n. refers_to_record (λ c. is_record_within m d c.namespace c.definition) d (meant d (record { namespace = ns; kind = k; name = n })))

-- the context of an action is a record, by way of as many common types as there are
abbrev pub becomes_record : Declarations → ActionDeclaration → Bool
becomes_record d a = is_record_within (length d.commons) d a.namespace a.context

-- all names that are written: those that are declared, those that are referred to, and the types of parents of actions
abbrev pub written_names : Declarations → List Name
written_names d = common_names d ++ (entity_names d ++ (map (λ u. u.kind) (action_uids d) ++ (map (λ r. r.name) (references d) ++ (extensions d ++ flat_map (λ a. map (λ u. u.kind) a.parents) d.actions))))

-- the uid as it is in the empty namespace
abbrev pub unqualified_uid : Uid → Uid
unqualified_uid u = record { kind = unqualified u.kind.base; id = u.id }

-- the declared types of both kinds
abbrev pub declared_types : Declarations → List Name
declared_types d = common_names d ++ entity_names d

-- a type or an action of a namespace stands in the empty one too
abbrev pub shadows : Declarations → Bool
shadows d = list_any (λ n. not (is_unqualified n) && list_any (name_eq (unqualified n.base)) (declared_types d)) (declared_types d)
    || list_any (λ u. not (is_unqualified u.kind) && list_any (uid_eq (unqualified_uid u)) (action_uids d)) (action_uids d)

abbrev pub is_external_kind : KindExpr → Bool
is_external_kind external_expr = true
is_external_kind k = false

-- Each fault: its number, and when it is there. The extension types are those of the table.
abbrev pub schema_rule : SchemaFault → ℕ × (List Name → Declarations → Bool)
schema_rule duplicate_entity_type = (1, λ x d. is_some (repeated name_eq (entity_names d)))
schema_rule duplicate_common_type = (2, λ x d. is_some (repeated name_eq (common_names d)))
schema_rule duplicate_action = (3, λ x d. is_some (repeated uid_eq (action_uids d)))
schema_rule undeclared_type = (4, λ x d. list_any (λ r. is_none (meant d r)) (references d))
schema_rule undeclared_action = (5, λ x d. list_any (λ a. list_any (λ u. is_none (parent_meant d a.namespace u)) a.parents) d.actions)
schema_rule cycle_of_common_types = (6, λ x d. list_any (λ n. reaches (uses d) (common_names d) n n) (common_names d))
schema_rule cycle_of_actions = (7, λ x d. list_any (λ u. reaches (has_parent_action d) (action_uids d) u u) (action_uids d))
schema_rule action_as_entity_type = (8, λ x d. list_any (λ t. bytes_eq action_word t.word) d.entities)
schema_rule context_not_record = (9, λ x d. list_any (λ a. not (becomes_record d a)) d.actions)
schema_rule reserved_name = (10, λ x d. list_any is_reserved (written_names d))
schema_rule shadowing = (11, λ x d. shadows d)
schema_rule unknown_extension_type = (12, λ x d. list_any (λ n. not (list_any (name_eq n) x)) (extensions d))
schema_rule unresolved_external = (13, λ x d. list_any (λ t. is_external_kind t.kind) d.entities || list_any (λ a. a.is_external) d.actions)

abbrev pub schema_number : SchemaFault → ℕ
schema_number f = (schema_rule f).0

-- The fault is there.
abbrev pub has_schema_fault : List Name → Declarations → SchemaFault → Bool
has_schema_fault x d f = (schema_rule f).1 x d

-- Declarations are well-formed where none of the faults is there that make them ill-formed.
abbrev pub IsWellFormed : List Name → Declarations → Type 0
IsWellFormed x d = (f : SchemaFault) → Contains ill_forms f → has_schema_fault x d f ≡ false

abbrev pub well_formed : List Name → Declarations → Bool
well_formed x d = list_all (λ f. not (has_schema_fault x d f)) ill_forms
