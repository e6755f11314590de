-- What is known where the walk stands, and how many turns are left at most.
use denote.Shadow.{shadow}
use denote.Text.{Utf8}
use Rattle.std.specs.Str.{chars}
use Rattle.cedar_expr_model.specs.Pattern.{matches_text}
use Rattle.cedar_expr_leaves.specs.Patterns.{elements_of}
use Rattle.cedar_expr_leaves.specs.Turns.{back_of}
use Rattle.cedar_expr_leaves.proofs.Walking.{Walks}
use Rattle.cedar_expr_leaves.proofs.Turning.{from_of, tail_of, Bounds, turns}
use Rattle.cedar_expr_leaves.proofs.matching.is_matched.Given as goal

abbrev pub invariant-loop-c : goal.invariant-loop-c
invariant-loop-c l =
    shadow (Utf8 l.rest)
    × Walks (matches_text (elements_of l.pattern) l.text) (elements_of l.elems) (chars l.rest) (back_of l.retry)
    × Bounds (elements_of l.pattern) (elements_of l.elems) (chars l.rest) (from_of l.text l.retry) (tail_of l.retry)

abbrev pub decreases-loop-c : goal.decreases-loop-c
decreases-loop-c l = turns (elements_of l.pattern) (elements_of l.elems) (from_of l.text l.retry)
