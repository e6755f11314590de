use Rattle.std.proofs.Common.{map, drop}
use Rattle.cedar_expr_trees.specs.Trees.{tree_of}
use Rattle.cedar_typechecker_answers.specs.Marked.{named_tree}
use Rattle.cedar_typechecker_answers.proofs.Copied.{Gathered}
use Rattle.cedar_gate_places.proofs.places.+placed.Given as goal

abbrev pub invariant-parts-loop-e : goal.invariant-parts-loop-e
invariant-parts-loop-e l = Gathered tree_of tree_of (map tree_of l.exprs) l.all.items (drop l.e-index l.exprs)

abbrev pub invariant-fields_placed-loop-name : goal.invariant-fields_placed-loop-name
invariant-fields_placed-loop-name l = Gathered named_tree named_tree (map named_tree l.fields.entries) l.all.items l.name-iterator
