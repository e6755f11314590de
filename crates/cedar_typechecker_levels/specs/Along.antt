-- A path of attributes from an expression of a type, step by step.
-- Rule: levels (docs/RULES.md).
use Rattle.std.specs.Prelude.{◌+◌, ℕ, List, [], ◌∷◌, Option, Some, None, if◌then◌else◌, map}
use Rattle.std.specs.Rc.{rc_str_bytes}
use Rattle.std.specs.declared.alloc.Global.{Global}
use Rattle.std.specs.declared.rc.RcStr.{RcStr}
use Rattle.cedar_expr_leaves.specs.declared.non_empty.NonEmpty.{NonEmpty}
use Rattle.cedar_expr_model.specs.Name.{Text}
use Rattle.cedar_schema_model.specs.Types.{Ty}
use Rattle.cedar_schema_types.specs.declared.types.Type.{«Type» as CodeType}
use Rattle.cedar_typechecker_model.specs.Levels.{is_entity, entity_steps, fields_before}
use Rattle.cedar_typechecker_model.specs.Rules.{Setting}
use Rattle.cedar_typechecker_model.specs.Typing.{step_type}
use Rattle.cedar_typechecker_levels.specs.Marked.{type_in}

-- the steps on entities
abbrev pub entity_steps_along : Setting → List Text → Option Ty → ℕ
entity_steps_along s [] o = 0
entity_steps_along s (a ∷ as_) None = 0
entity_steps_along s (a ∷ as_) (Some t) = (if is_entity (Some t) then 1 else 0) + entity_steps_along s as_ (step_type s t a)

-- the fields of records before the first of them
abbrev pub fields_along : Setting → List Text → Option Ty → List Text
fields_along s [] o = []
fields_along s (a ∷ as_) None = []
fields_along s (a ∷ as_) (Some t) = if is_entity (Some t) then [] else (a ∷ fields_along s as_ (step_type s t a))

-- the steps of the path on entities, and the fields of records by which it reaches its first entity
abbrev pub path_steps : Setting → NonEmpty (RcStr Global) → Option CodeType → ℕ
path_steps s p t = entity_steps s (rc_str_bytes p.head) (map rc_str_bytes p.tail.items) (type_in t)

abbrev pub path_fields : Setting → NonEmpty (RcStr Global) → Option CodeType → List Text
path_fields s p t = fields_before s (rc_str_bytes p.head) (map rc_str_bytes p.tail.items) (type_in t)
