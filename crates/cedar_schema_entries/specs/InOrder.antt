-- What is kept of an entity type and of an action stands in order, each once.
-- Rule: schemas (docs/RULES.md).
use Rattle.std.specs.Prelude.{◌&&◌, Bool, true}
use Rattle.cedar_expr_model.specs.UidOrder.{name_cmp, uid_cmp}
use Rattle.cedar_expr_model.specs.Lists.{rises}
use Rattle.cedar_expr_model.specs.Order.{text_cmp}
use Rattle.cedar_schema_model.specs.Schema.{EntityKind, standard, enumerated, external}
use Rattle.cedar_schema_model.specs.Kept.{KeptType, KeptAction}

-- the members of an enumeration, in the order of their texts
abbrev pub kind_in_order : EntityKind → Bool
kind_in_order (standard as_ t) = true
kind_in_order (enumerated ids) = rises text_cmp ids
kind_in_order external = true

-- and what descends from the entity type, in the order of names
abbrev pub type_in_order : KeptType → Bool
type_in_order t = kind_in_order t.kind && rises name_cmp t.descendants

-- what the action applies to, in the order of names, and what descends from it, in that of uids
abbrev pub action_in_order : KeptAction → Bool
action_in_order a = rises name_cmp a.applied.principals && (rises name_cmp a.applied.resources && rises uid_cmp a.descendants)
