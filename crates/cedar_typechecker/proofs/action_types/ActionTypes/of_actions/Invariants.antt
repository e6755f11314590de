use Rattle.std.proofs.Common.{◌≡◌, ◌||◌, map}
use Rattle.std.specs.BTreeSet.{contains}
use Rattle.std.specs.List.{list_any}
use Rattle.cedar_expr_names.specs.Views.{type_name_of}
use Rattle.cedar_expr_names.specs.declared.entity.EntityType.{EntityType}
use Rattle.cedar_schema_entries.specs.Views.{action_seen}
use Rattle.cedar_typechecker_model.specs.Asked.{is_pair, pairs_of, kind_is_below, is_kind}
use Rattle.cedar_typechecker.specs.Pairs.{types_by, has_pair}
use Rattle.cedar_typechecker.proofs.action_types.ActionTypes.of_actions.Given as goal

abbrev pub invariant-loop-action : goal.invariant-loop-action
invariant-loop-action l = record {
  types : (q : EntityType) → (is_kind (map action_seen l.action-iterator) (type_name_of q) || contains types_by l.types q) ≡ is_kind (map action_seen l.initial.action-iterator) (type_name_of q);
  pairs : (q r : EntityType) → (list_any (λ a. list_any (is_pair (type_name_of q) (type_name_of r)) (pairs_of a)) (map action_seen l.action-iterator) || has_pair l.pairs q r) ≡ kind_is_below (map action_seen l.initial.action-iterator) (type_name_of q) (type_name_of r);
}
