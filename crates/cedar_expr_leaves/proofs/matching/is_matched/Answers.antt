-- Each turn keeps what is known. Where the text ends, only wildcards may be left.
use Rattle.std.proofs.Common.{sym, ◌∙◌, rules, tests}
use Rattle.std.proofs.lemmas.Iterator.{YieldsList-from_slice}
use Rattle.std.proofs.lemmas.Iterator.Search.{all_from_yields_List}
use Rattle.std.specs.Str.{chars}
use Rattle.cedar_expr_model.specs.Pattern.{matches_text}
use Rattle.cedar_expr_leaves.specs.Patterns.{elements_of}
use Rattle.cedar_expr_leaves.specs.Turns.{back_of}
use Rattle.cedar_expr_leaves.proofs.Walking.{ends}
use Rattle.cedar_expr_leaves.proofs.Turning.{from_of, tail_of, walk_taken, bounds_taken, walk_skipped, bounds_skipped, is_wildcard, at_end}
use Rattle.cedar_expr_leaves.proofs.matching.is_matched.Goals as goal

pub loop-c-preserved-in-Takes : goal.loop-c-preserved-in-Takes
loop-c-preserved-in-Takes c =
    let pattern = elements_of c.args.pattern.now in
    let whole = matches_text pattern c.args.text.now in
    let p = elements_of c.loop-c.elems.now in
    let others = elements_of c.in-Takes.others.now in
    let cs = chars c.loop-c.rest.now in
    let after = chars c.in-Some.after.now in
    let back = back_of c.loop-c.retry in
    let from = from_of c.args.text.now c.loop-c.retry in
    let tail = tail_of c.loop-c.retry in (
      search rules,
      walk_taken whole pattern p others c.in-Some.c cs after back from tail c.in-Takes.ensures c.in-Some.ensures c.loop-c.invariant.1,
      bounds_taken whole pattern p others c.in-Some.c cs after back from tail c.in-Takes.ensures c.in-Some.ensures c.loop-c.invariant.2,
    )

pub loop-c-preserved-in-Skips : goal.loop-c-preserved-in-Skips
loop-c-preserved-in-Skips c =
    let pattern = elements_of c.args.pattern.now in
    let whole = matches_text pattern c.args.text.now in
    let p = elements_of c.loop-c.elems.now in
    let others = elements_of c.in-Skips.others.now in
    let cs = chars c.loop-c.rest.now in
    let after = chars c.in-Some.after.now in
    let back = back_of c.loop-c.retry in
    let from = from_of c.args.text.now c.loop-c.retry in
    let tail = tail_of c.loop-c.retry in (
      search rules,
      walk_skipped whole pattern p others c.in-Some.c cs after back from tail c.in-Skips.ensures c.loop-c.invariant.1,
      bounds_skipped whole pattern p others c.in-Some.c cs after back from tail c.in-Skips.ensures c.loop-c.invariant.2,
    )

pub returns : goal.returns
returns c =
    let p = elements_of c.loop-c.elems.now in
    let whole = matches_text (elements_of c.args.pattern.now) c.args.text.now in
    all_from_yields_List is_wildcard _ _ c.all.result c.all.ensures.ran (YieldsList-from_slice c.loop-c.elems.now cc) (λ x b q k. search (rules, tests))
    ∙ sym (at_end c.loop-c.elems.now)
    ∙ sym (ends whole p (chars c.loop-c.rest.now) (back_of c.loop-c.retry) c.in_default.ensures c.loop-c.invariant.1)
