-- What the laws of conversions and of split lists say.
-- Rule: values and equality; parts of an expression (docs/RULES.md).
use Rattle.std.specs.Prelude.{◌≡◌, ◌↔◌, List, map, true, Some, None, if◌then◌else◌}
use Rattle.cedar_expr_model.specs.Tree.{Tree}
use Rattle.cedar_expr_model.specs.Made.{Made, bare, written}
use Rattle.cedar_expr_model.specs.TreeLaws.{is_plain}
use Rattle.cedar_expr_model.specs.Canonical.{is_canonical}
use Rattle.cedar_expr_model.specs.ValueParts.{value_of_tree, Part, part_tree, all_known, Split, values_alone, with_residuals, split}

-- the value of what a canonical value is written as: that value, where no extension value stands in it, and else none
abbrev pub ThereAndBack : Type 0
ThereAndBack = (m : Made) → is_canonical (bare m) ≡ true → value_of_tree (written m) ≡ (if is_plain m then Some (bare m) else None)

-- a list is split into expressions exactly where not all are values, and they are those of all its items
abbrev pub SplitIntoExpressions : Type 0
SplitIntoExpressions = (ps : List (Part Made)) (ts : List Tree) → (split ps ≡ with_residuals ts) ↔ ((all_known ps ≡ None) × (ts ≡ map part_tree ps))

-- the parts of a split list as expressions
abbrev pub split_trees : Split → List Tree
split_trees (values_alone ms) = map written ms
split_trees (with_residuals ts) = ts

-- they are those of the items
abbrev pub SplitKeeps : Type 0
SplitKeeps = (ps : List (Part Made)) → split_trees (split ps) ≡ map part_tree ps
