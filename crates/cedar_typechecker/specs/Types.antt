-- What is kept of the types of actions.
-- Rule: descent; the scope rules (docs/RULES.md).
use Rattle.std.specs.Prelude.{◌≡◌, List, Bool, ◌||◌}
use Rattle.std.specs.BTreeSet.{contains}
use Rattle.cedar_expr_names.specs.Views.{type_name_of}
use Rattle.cedar_expr_names.specs.declared.entity.EntityType.{EntityType}
use Rattle.cedar_schema_model.specs.Kept.{KeptAction, Kept}
use Rattle.cedar_typechecker.specs.declared.action_types.ActionTypes.{ActionTypes}
use Rattle.cedar_typechecker_model.specs.Asked.{kind_is_below, is_kind, type_is_below}
use Rattle.cedar_typechecker.specs.Pairs.{types_by, has_pair}

-- the type is one of those, and an action of the first type descends from one of the second
abbrev pub is_type_of_action : ActionTypes → EntityType → Bool
is_type_of_action t q = contains types_by t.types q

abbrev pub descends_by_actions : ActionTypes → EntityType → EntityType → Bool
descends_by_actions t q r = has_pair t.pairs q r

-- the first type descends from the second as an entity type, or an action of it from one of the second
abbrev pub descends_either : Kept → ActionTypes → EntityType → EntityType → Bool
descends_either k t q r = type_is_below k (type_name_of q) (type_name_of r) || descends_by_actions t q r

-- They are those of these actions.
pub record AreTypesOf (as_ : List KeptAction) (t : ActionTypes) : Type 0 where
  pub types : (q : EntityType) → is_type_of_action t q ≡ is_kind as_ (type_name_of q)
  pub pairs : (q r : EntityType) → descends_by_actions t q r ≡ kind_is_below as_ (type_name_of q) (type_name_of r)
