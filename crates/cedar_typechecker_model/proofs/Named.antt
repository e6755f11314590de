-- Names for parts of the definitions that proofs take apart.
use Rattle.std.proofs.Common.{◌≡◌, ℕ, Bool, true, if◌then◌else◌, List, [], Option}
use Rattle.std.specs.Prelude.{option_and_then, max, ◌++◌, Some}
use Rattle.std.specs.Option.{option_map_or}
use Rattle.cedar_expr_model.specs.Name.{Text, Name}
use Rattle.cedar_expr_model.specs.Uid.{Uid}
use Rattle.cedar_expr_model.specs.Value.{entity, V, prim, Vs, values_list}
use Rattle.cedar_expr_model.specs.Lists.{all_given, is_nil}
use Rattle.cedar_expr_model.specs.Table.{Signature}
use Rattle.cedar_store_model.specs.Outcome.{Res, val, err, missing_field}
use Rattle.cedar_store_model.specs.Reads.{uid_of}
use Rattle.cedar_schema_model.specs.Types.{Ty, any_entity, entity_type, bool_type, only_false}
use Rattle.cedar_schema_model.specs.Schema.{EntityType}
use Rattle.cedar_typechecker_model.specs.Rules.{core_as_type, Setting, written_uid, written_equal}
use Rattle.cedar_typechecker_model.specs.ScopeRules.{has_id, kind_here}
use Rattle.cedar_expr_model.specs.Tree.{Tree}
use Rattle.cedar_expr_model.specs.Parts.{subexpressions, uid_here}
use Rattle.std.specs.List.{filter_map}
use Rattle.cedar_typechecker_model.specs.Levels.{Count, count}
use Rattle.cedar_schema_model.specs.Join.{are_disjoint}

-- the uids that an expression writes anywhere, and the entity types that its `is` tests name
abbrev pub uids_of : Tree → List Uid
uids_of t = filter_map uid_here (subexpressions t)

abbrev pub kinds_of : Tree → List Name
kinds_of t = filter_map kind_here (subexpressions t)

-- the type of an equality
abbrev pub equal_type : Setting → Tree → Tree → Ty → Ty → Option Ty
equal_type s a b t u = if are_disjoint t u then Some (bool_type only_false) else written_equal s (written_uid s a) (written_uid s b) t u

-- the greater count of two branches
abbrev pub greater : Count → Count → Count
greater c d = count (max c.steps d.steps) (c.found ++ d.found)

-- nothing of an expression without a type
abbrev pub if_typed : {A : Type 0} → Option Ty → List A → List A
if_typed o vs = option_map_or (λ _. vs) o []

-- the id of an enumerated type, if it is one, is a declared member
abbrev pub is_id_of : Option EntityType → Text → Bool
is_id_of o id = option_map_or (λ t. has_id t.kind id) o true

-- the entity types of an entity, or of the members of a set of them
abbrev pub Kinds : Type 0
Kinds = Option (List Name)

-- the type of a slot
abbrev pub bound_type : Option Name → Ty
bound_type o = option_map_or entity_type o any_entity

-- the type of the result of a function
abbrev pub result_type : Signature → Option Ty
result_type f = option_and_then core_as_type f.result

abbrev pub one_if : Bool → ℕ
one_if b = if b then 1 else 0

-- the field that is found
abbrev pub field_value : Option V → Res V
field_value o = option_map_or val o (err missing_field)

-- the value is the uid
abbrev pub IsEntity : V → Uid → Type 0
IsEntity v u = v ≡ prim (entity u)

-- members that are all entities, as uids
abbrev pub uids_among : Vs → Option (List Uid)
uids_among vs = all_given uid_of (values_list vs)

abbrev pub has_no_values : Vs → Bool
has_no_values vs = is_nil (values_list vs)
