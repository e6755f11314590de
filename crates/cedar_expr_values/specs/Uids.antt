-- The uids that stand in a value as literals, and those of a set.
-- Rule: parts of an expression (docs/RULES.md).
use Rattle.std.specs.Prelude.{Bool, false, ◌||◌}
use Rattle.std.specs.List.{list_any}
use Rattle.std.specs.BTreeSet.{BTreeSet}
use Rattle.cedar_expr_model.specs.Uid.{Uid, uid_eq}
use Rattle.cedar_expr_model.specs.Value.{Literal, entity, V, prim, set_of, record_of, extension, Vs, no_values, value, Fields, no_fields, field}
use Rattle.cedar_expr_names.specs.Views.{uid_of}
use Rattle.cedar_expr_names.specs.declared.entity.EntityUID.{EntityUID}

-- whether the uid is in the set
abbrev pub has_uid : BTreeSet EntityUID → Uid → Bool
has_uid s u = list_any (λ k. uid_eq u (uid_of k)) s.keys

-- whether the literal is the uid
abbrev pub is_that_uid : Literal → Uid → Bool
is_that_uid (entity v) u = uid_eq u v
is_that_uid p u = false

-- whether the uid stands anywhere in the value
abbrev mutual
  pub holds_uid : V → Uid → Bool
  holds_uid (prim p) u = is_that_uid p u
  holds_uid (set_of vs) u = member_holds_uid vs u
  holds_uid (record_of fs) u = field_holds_uid fs u
  holds_uid (extension n k) u = false

  pub member_holds_uid : Vs → Uid → Bool
  member_holds_uid no_values u = false
  member_holds_uid (value v vs) u = holds_uid v u || member_holds_uid vs u

  pub field_holds_uid : Fields → Uid → Bool
  field_holds_uid no_fields u = false
  field_holds_uid (field a v fs) u = holds_uid v u || field_holds_uid fs u
