use Rattle.std.proofs.Common.{◌≡◌, ◌||◌, map}
use Rattle.std.specs.List.{list_any}
use Rattle.cedar_expr_names.specs.Views.{type_name_of, uid_of}
use Rattle.cedar_expr_names.specs.declared.entity.EntityType.{EntityType}
use Rattle.cedar_schema_entries.specs.Views.{action_seen}
use Rattle.cedar_typechecker_model.specs.Asked.{is_pair, pairs_of}
use Rattle.cedar_typechecker.specs.Pairs.{has_pair}
use Rattle.cedar_typechecker.proofs.Gathering.{pairs_under}
use Rattle.cedar_typechecker.proofs.action_types.add_pairs.Given as goal

abbrev pub invariant-loop-below : goal.invariant-loop-below
invariant-loop-below l = (q r : EntityType) → (list_any (is_pair (type_name_of q) (type_name_of r)) (pairs_under (action_seen l.action) (map uid_of l.below-iterator)) || has_pair l.pairs q r) ≡ (list_any (is_pair (type_name_of q) (type_name_of r)) (pairs_of (action_seen l.action)) || has_pair l.initial.pairs q r)
