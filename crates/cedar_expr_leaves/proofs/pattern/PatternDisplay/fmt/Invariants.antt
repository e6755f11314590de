-- The elements that were written so far.
use Rattle.std.proofs.Common.{take}
use Rattle.std.specs.Fmt.{HasWritten, IsPlainFormatter}
use Rattle.cedar_expr_model.specs.Texts.{pattern_text}
use Rattle.cedar_expr_leaves.specs.Patterns.{elements_of}
use Rattle.cedar_expr_leaves.proofs.pattern.PatternDisplay.fmt.Given as goal

abbrev pub invariant-loop-elem : goal.invariant-loop-elem
invariant-loop-elem g l =
    IsPlainFormatter l.fn.f → HasWritten g.W.Write.write_str_gives l.fn.f (pattern_text (elements_of (take l.elem-index l.elem-items))) l.f
