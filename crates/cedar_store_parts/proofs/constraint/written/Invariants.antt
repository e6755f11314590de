use Rattle.std.proofs.Common.{◌≡◌, map, take}
use Rattle.cedar_expr_names.specs.Views.{uid_of}
use Rattle.cedar_expr_model.specs.Value.{entity}
use Rattle.cedar_expr_model.specs.Tree.{lit}
use Rattle.cedar_expr_trees.specs.Trees.{tree_of}
use Rattle.cedar_store_parts.proofs.constraint.written.Given as goal

abbrev pub invariant-loop-uid : goal.invariant-loop-uid
invariant-loop-uid l = map tree_of l.exprs.items ≡ map (λ v. lit (entity v)) (map (λ u. uid_of u.value) (take l.uid-index l.uids))
