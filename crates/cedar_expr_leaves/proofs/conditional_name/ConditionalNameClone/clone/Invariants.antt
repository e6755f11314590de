-- The names that were copied so far, with their places.
use Rattle.std.proofs.Common.{◌≡◌, map, take}
use Rattle.cedar_expr_names.specs.Views.{name_of, name_loc}
use Rattle.cedar_expr_leaves.proofs.conditional_name.ConditionalNameClone.clone.Given as goal

abbrev pub invariant-loop-possible : goal.invariant-loop-possible
invariant-loop-possible l =
    (map name_of l.possibilities.items ≡ map name_of (take l.possible-index l.possible-items))
    × (map name_loc l.possibilities.items ≡ map name_loc (take l.possible-index l.possible-items))
