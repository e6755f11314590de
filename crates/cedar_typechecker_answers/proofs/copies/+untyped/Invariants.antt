use Rattle.std.proofs.Common.{◌≡◌, ◌++◌, map, drop}
use Rattle.cedar_expr_trees.specs.Trees.{tree_of}
use Rattle.cedar_typechecker_model.specs.Typed.{blank}
use Rattle.cedar_typechecker_answers.specs.Marked.{marks_of, named_tree}
use Rattle.cedar_typechecker_answers.proofs.Copied.{Gathered}
use Rattle.cedar_typechecker_answers.proofs.copies.+untyped.Given as goal

abbrev pub invariant-untyped_all-loop-e : goal.invariant-untyped_all-loop-e
invariant-untyped_all-loop-e l =
    record {
      trees : Gathered tree_of tree_of (map tree_of l.exprs) l.all.items (drop l.e-index l.exprs);
      blank : Gathered marks_of (λ e. blank (tree_of e)) (map (λ e. blank (tree_of e)) l.exprs) l.all.items (drop l.e-index l.exprs);
    }

abbrev pub invariant-untyped_fields-loop-name : goal.invariant-untyped_fields-loop-name
invariant-untyped_fields-loop-name l =
    record {
      trees : Gathered named_tree named_tree (map named_tree l.fields.entries) l.all.items l.name-iterator;
      blank : Gathered (λ e. marks_of e.1) (λ e. blank (tree_of e.1)) (map (λ e. blank (tree_of e.1)) l.fields.entries) l.all.items l.name-iterator;
    }
