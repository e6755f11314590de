-- The rules of typing for each kind, on the types of the parts. Where no clause says otherwise there is no type.
-- Rule: typing (docs/RULES.md).
use Rattle.std.specs.Prelude.{◌&&◌, ◌||◌, List, [], ◌∷◌, length, Bool, true, false, not, Option, Some, None, is_some, is_none, option_map, option_and_then, if◌then◌else◌}
use Rattle.std.specs.Option.{option_map_or}
use Rattle.std.specs.List.{list_all, list_any}
use Rattle.cedar_expr_model.specs.Name.{Text, Name, name_eq}
use Rattle.cedar_expr_model.specs.Uid.{Uid, uid_eq}
use Rattle.cedar_expr_model.specs.Value.{Literal, truth, long, text, entity}
use Rattle.cedar_expr_model.specs.Tree.{Var, principal, action, resource, context, SlotId, principal_slot, resource_slot, CoreType, bool_core, long_core, string_core, extension_core, UnaryOp, negation, minus, is_empty, BinaryOp, equal, less, less_or_equal, plus, difference, times, remainder, is_in, contains, contains_all, contains_any, Tree, lit, var, set_literal, Trees, no_trees, tree}
use Rattle.cedar_expr_model.specs.Lists.{all_given}
use Rattle.cedar_expr_model.specs.Parts.{uid_here, listed}
use Rattle.cedar_expr_model.specs.Table.{Table, Signature, signature_of, is_ordered, takes_count, is_constructor}
use Rattle.cedar_schema_model.specs.Types.{BoolType, any_bool, only_true, only_false, Openness, is_open, is_closed, Ty, never, bool_type, long_type, string_type, any_entity, entity_types, any_set, set_type, record_type, extension_type, entity_type, Attributes, no_attributes, attribute, Declared, attribute_named, Mode, strict, permissive}
use Rattle.cedar_schema_model.specs.Schema.{Schema, type_named, declares_type, declares_action}
use Rattle.cedar_schema_model.specs.Environment.{Environment}
use Rattle.cedar_schema_model.specs.Subtype.{is_subtype, is_permissive}
use Rattle.cedar_schema_model.specs.Join.{join, are_disjoint, reduce_to_join}
use Rattle.cedar_schema_model.specs.Lookup.{lookup_attribute, may_have_attribute}
use Rattle.cedar_schema_model.specs.Descent.{type_descends, action_descends}
use Rattle.cedar_typechecker_model.specs.Facts.{Facts, attribute_part, tag_part}
use Rattle.cedar_schema_model.specs.Conforming.{of_kind, tags_at}

-- what an expression is typed in
pub record Setting : Type 0 where
  pub schema : Schema
  pub table : Table
  pub mode : Mode
  pub env : Environment

abbrev pub known_truth : Bool → BoolType
known_truth true = only_true
known_truth false = only_false

abbrev pub truth_type : Option Ty
truth_type = Some (bool_type any_bool)

abbrev pub if_there : {A : Type 0} → Option A → Option Ty
if_there o = option_map (λ _. bool_type any_bool) o

-- A literal. A uid has its type if that is declared or the uid is a declared action, else none.
abbrev pub literal_type : Setting → Literal → Option Ty
literal_type s (truth b) = Some (bool_type (known_truth b))
literal_type s (long n) = Some long_type
literal_type s (text t) = Some string_type
literal_type s (entity u) = if declares_type s.schema u.kind || declares_action s.schema u then Some (entity_type u.kind) else None

-- A variable has the environment's type.
abbrev pub var_type : Setting → Var → Ty
var_type s principal = entity_type s.env.principal
var_type s action = entity_type s.env.action.kind
var_type s resource = entity_type s.env.resource
var_type s context = record_type s.env.context is_closed

-- A slot has the environment's type, or that of any entity where the environment has none.
abbrev pub slot_type : Setting → SlotId → Ty
slot_type s principal_slot = option_map_or entity_type s.env.principal_slot any_entity
slot_type s resource_slot = option_map_or entity_type s.env.resource_slot any_entity

abbrev pub negated : BoolType → BoolType
negated only_true = only_false
negated only_false = only_true
negated any_bool = any_bool

-- an operator of one operand
abbrev pub unary_type : UnaryOp → Ty → Option Ty
unary_type negation (bool_type b) = Some (bool_type (negated b))
unary_type minus long_type = Some long_type
unary_type is_empty any_set = truth_type
unary_type is_empty (set_type t) = truth_type
unary_type o t = None

-- The uid that an expression writes; `action` writes the environment's.
abbrev pub written_uid : Setting → Tree → Option Uid
written_uid s (var action) = Some s.env.action
written_uid s t = uid_here t

-- types that join, in Strict; in Permissive any
abbrev pub comparable : Mode → Ty → Ty → Option Ty
comparable m t u = if is_permissive m then truth_type else if_there (join m t u)

abbrev pub written_equal : Setting → Option Uid → Option Uid → Ty → Ty → Option Ty
written_equal s (Some u) (Some v) t t' = Some (bool_type (known_truth (uid_eq u v)))
written_equal s u v t t' = comparable s.mode t t'

-- order: two whole numbers, or two of one extension type that is ordered
abbrev pub order_type : Setting → Ty → Ty → Option Ty
order_type s long_type long_type = truth_type
order_type s (extension_type m) (extension_type n) = if name_eq m n && is_ordered s.table m then truth_type else None
order_type s t u = None

abbrev pub number_type : Ty → Ty → Option Ty
number_type long_type long_type = Some long_type
number_type t u = None

-- membership: the type of the element joins with that of the members
abbrev pub member_type : Setting → Ty → Ty → Option Ty
member_type s any_set t = truth_type
member_type s (set_type e) t = if_there (join s.mode e t)
member_type s t u = None

abbrev pub is_set_type : Ty → Bool
is_set_type any_set = true
is_set_type (set_type t) = true
is_set_type t = false

-- two sets whose types join
abbrev pub sets_type : Setting → Ty → Ty → Option Ty
sets_type s t u = if is_set_type t && is_set_type u then if_there (join s.mode t u) else None

-- the entity types of an entity, or of the members of a set of entities: no list for any entity, and nothing for any others
abbrev pub entity_kinds : Ty → Option (Option (List Name))
entity_kinds any_entity = Some None
entity_kinds (entity_types ns) = Some (Some ns)
entity_kinds t = None

abbrev pub entity_or_set_kinds : Ty → Option (Option (List Name))
entity_or_set_kinds (set_type never) = Some (Some [])
entity_or_set_kinds (set_type t) = entity_kinds t
entity_or_set_kinds t = entity_kinds t

-- an entity of the first may be one of the second, or in one
abbrev pub may_be_in : Schema → Option (List Name) → Option (List Name) → Bool
may_be_in s (Some ms) (Some ns) = list_any (λ m. list_any (λ n. name_eq m n || type_descends s m n) ns) ms
may_be_in s k l = true

-- the declared action that a literal, and that an expression, writes
abbrev pub action_literal : Setting → Tree → Option Uid
action_literal s t = option_and_then (λ u. if declares_action s.schema u then Some u else None) (uid_here t)

abbrev pub written_action : Setting → Tree → Option Uid
written_action s (var action) = Some s.env.action
written_action s t = action_literal s t

-- the declared actions that a literal, or a set of literals, writes
abbrev pub written_actions : Setting → Tree → Option (List Uid)
written_actions s (set_literal ts) = all_given (action_literal s) (listed ts)
written_actions s t = option_map (λ u. u ∷ []) (action_literal s t)

abbrev pub within_kinds : Setting → Option Uid → Option (List Uid) → Option (List Name) → Option (List Name) → Ty
within_kinds s (Some u) (Some us) k l = bool_type (known_truth (list_any (λ v. uid_eq u v || action_descends s.schema u v) us))
within_kinds s u us k l = bool_type (if may_be_in s.schema k l then any_bool else only_false)

-- `in`: of written actions True or False, as the declared actions stand; False where the types exclude it; else Bool
abbrev pub in_type : Setting → Tree → Tree → Ty → Ty → Option Ty
in_type s a b t u = option_and_then (λ k. option_map (within_kinds s (written_action s a) (written_actions s b) k) (entity_or_set_kinds u)) (entity_kinds t)

-- An operator of two operands, but for tags. Equality: False of types without a common value; of two written uids True or False; else
-- the types must be comparable.
abbrev pub binary_type : Setting → BinaryOp → Tree → Tree → Ty → Ty → Option Ty
binary_type s equal a b t u = if are_disjoint t u then Some (bool_type only_false) else written_equal s (written_uid s a) (written_uid s b) t u
binary_type s less a b t u = order_type s t u
binary_type s less_or_equal a b t u = order_type s t u
binary_type s plus a b t u = number_type t u
binary_type s difference a b t u = number_type t u
binary_type s times a b t u = number_type t u
binary_type s remainder a b t u = number_type t u
binary_type s is_in a b t u = in_type s a b t u
binary_type s contains a b t u = member_type s t u
binary_type s contains_all a b t u = sets_type s t u
binary_type s contains_any a b t u = sets_type s t u
binary_type s o a b t u = None

abbrev pub like_type : Ty → Option Ty
like_type string_type = truth_type
like_type t = None

abbrev pub kinds_are : Name → List Name → BoolType
kinds_are n ns = if list_all (name_eq n) ns then only_true else (if list_any (name_eq n) ns then any_bool else only_false)

-- `is`, by the type of the operand
abbrev pub is_type_type : Name → Ty → Option Ty
is_type_type n any_entity = truth_type
is_type_type n (entity_types ns) = Some (bool_type (kinds_are n ns))
is_type_type n t = None

-- Whether an attribute is there: of a record True where it is required and False where there is none; of an entity False where
-- none is declared; else Bool.
abbrev pub has_field : Openness → Option Declared → BoolType
has_field o (Some d) = if d.is_required then only_true else any_bool
has_field is_open None = any_bool
has_field is_closed None = only_false

abbrev pub has_type : Setting → Ty → Text → Option BoolType
has_type s (record_type as_ o) a = Some (has_field o (attribute_named a as_))
has_type s t a = option_map (λ k. if may_have_attribute s.schema t a then any_bool else only_false) (entity_kinds t)

-- an attribute that is declared and required, or known to be there
abbrev pub attribute_type : Bool → Option Declared → Option Ty
attribute_type is_known declared = option_and_then (λ d. if d.is_required || is_known then Some d.type else None) declared

abbrev pub get_type : Setting → Facts → Tree → Ty → Text → Option Ty
get_type s known e t a = attribute_type (known e (attribute_part a)) (lookup_attribute s.schema t a)

-- the type of the tags of an entity type
abbrev pub tags_of : Schema → Name → Option Ty
tags_of s n = option_and_then (λ e. tags_at (of_kind e.kind)) (type_named s n)

-- the type of a tag of an entity: of several entity types the join of theirs
abbrev pub tag_type : Setting → Ty → Option Ty
tag_type s (entity_types ns) = option_and_then (reduce_to_join permissive) (all_given (tags_of s.schema) ns)
tag_type s t = None

-- whether an entity may have tags
abbrev pub may_have_tags : Setting → Ty → Bool
may_have_tags s any_entity = true
may_have_tags s (entity_types ns) = list_any (λ n. is_some (tags_of s.schema n)) ns
may_have_tags s t = false

abbrev pub is_string_type : Ty → Bool
is_string_type string_type = true
is_string_type t = false

abbrev pub has_tag_type : Setting → Ty → Ty → Option BoolType
has_tag_type s t u = if is_string_type u then option_map (λ k. if may_have_tags s t then any_bool else only_false) (entity_kinds t) else None

abbrev pub get_tag_type : Setting → Facts → Tree → Tree → Ty → Ty → Option Ty
get_tag_type s known a b t u = if is_string_type u && known a (tag_part b) then tag_type s t else None

-- The elements of a set join; in Strict there is at least one.
abbrev pub set_literal_type : Mode → List Ty → Option Ty
set_literal_type strict [] = None
set_literal_type m ts = option_map set_type (reduce_to_join m ts)

-- no attribute is repeated
abbrev pub has_names_once : Attributes → Bool
has_names_once no_attributes = true
has_names_once (attribute n t r as_) = is_none (attribute_named n as_) && has_names_once as_

-- A record literal is closed, its fields required, and no name is repeated in it.
abbrev pub record_literal_type : Attributes → Option Ty
record_literal_type as_ = if has_names_once as_ then Some (record_type as_ is_closed) else None

-- the types that arguments and results of functions may have
abbrev pub core_as_type : CoreType → Option Ty
core_as_type bool_core = Some (bool_type any_bool)
core_as_type long_core = Some long_type
core_as_type string_core = Some string_type
core_as_type (extension_core n) = Some (extension_type n)
core_as_type c = None

-- each argument is of its type; further ones are of the last
abbrev pub arguments_fit : List Ty → List Ty → Bool
arguments_fit (p ∷ []) (t ∷ ts) = is_subtype strict t p && arguments_fit (p ∷ []) ts
arguments_fit (p ∷ q ∷ ps) (t ∷ ts) = is_subtype strict t p && arguments_fit (q ∷ ps) ts
arguments_fit ps ts = true

-- the one argument is a literal text
abbrev pub is_text_literal : Trees → Bool
is_text_literal (tree (lit (text s)) no_trees) = true
is_text_literal ts = false

-- in Strict a constructor takes a literal
abbrev pub takes_literal : Mode → Signature → Trees → Bool
takes_literal strict f ts = not (is_constructor f) || is_text_literal ts
takes_literal permissive f ts = true

-- a call of a function whose types may be typed, with right arguments, has the type of its result
abbrev pub signature_type : Setting → Trees → List Ty → Signature → Option Ty
signature_type s es ts f = option_and_then (λ ps. if takes_count f (length ts) && (arguments_fit ps ts && takes_literal s.mode f es) then option_and_then core_as_type f.result else None) (all_given core_as_type f.parameters)

abbrev pub call_type : Setting → Name → Trees → List Ty → Option Ty
call_type s f es ts = option_and_then (signature_type s es ts) (signature_of s.table f)
