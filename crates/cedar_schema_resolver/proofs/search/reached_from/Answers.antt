use Rattle.std.proofs.Common.{◌≡◌, ℕ, ◌+◌, ◌<◌, List, length, get_or, ap, sym, ◌∙◌, subst, arith}
use Rattle.std.proofs.lemmas.Grind.{get_or_default_zero}
use Rattle.cedar_schema_resolver.specs.Found.{with_nodes, AreBelow}
use Rattle.cedar_schema_resolver.specs.Graphs.{targets}
use Rattle.cedar_schema_resolver.proofs.Searching.{Searching, search_begins, search_goes, search_ends, row_below, found_within, found_few, all_within}
use Rattle.cedar_schema_resolver.proofs.search.reached_from.Goals as goal
use Rattle.cedar_schema_resolver.proofs.search.reached_from.Goals.{else-loop-step-test, then-loop-step-test+then-step-len}

pub add_all-requires-clause-within : goal.add_all-requires-clause-within
add_all-requires-clause-within c = row_below c.args.graph.now c.args.start _ _ c.requires.within c.requires.size c.row.ensures

pub loop-step-init : goal.loop-step-init
loop-step-init c = record {
  marks = c.in_ok-add_all.ensures.marks;
  size = c.in_ok-add_all.ensures.size ∙ c.requires.size;
  found = subst (Searching c.args.graph.now c.args.start 0) (sym (c.in_ok-add_all.ensures.found ∙ ap (with_nodes c.row.result.now) c.new-found.ensures.items)) (search_begins c.args.graph.now c.args.start c.row.result.now c.row.ensures);
}

node-is : (xs : List ℕ) (i n : ℕ) → i < length xs → n ≡ get_or xs i n → n ≡ get_or xs i 0
node-is xs i n l e = e ∙ get_or_default_zero xs i n l

pub row-requires-in-loop-step : goal.row-requires-in-loop-step
row-requires-in-loop-step c =
    let l : c.loop-step.step < length c.loop-step.found.items = omega (arith, c.if-step-len.false, c.len.ensures) in
    subst (λ n. n < length c.args.graph.now) (sym (node-is c.loop-step.found.items c.loop-step.step c.index-node.result.now l c.index-node.ensures))
    (found_within c.args.graph.now c.args.start c.loop-step.step c.loop-step.found.items c.requires.within c.loop-step.invariant.found l)

pub add_all-requires-in-loop-step-clause-within : goal.add_all-requires-in-loop-step-clause-within
add_all-requires-in-loop-step-clause-within c = row_below c.args.graph.now c.index-node.result.now _ _ c.requires.within c.loop-step.invariant.size c.row-in-loop-step.ensures

pub loop-step-preserved : goal.loop-step-preserved
loop-step-preserved c =
    let l : c.loop-step.step < length c.loop-step.found.items = omega (arith, c.if-step-len.false, c.len.ensures) in
    let q = node-is c.loop-step.found.items c.loop-step.step c.index-node.result.now l c.index-node.ensures in
    record {
      marks = c.in_ok-add_all-2.ensures.marks;
      size = c.in_ok-add_all-2.ensures.size ∙ c.loop-step.invariant.size;
      found = subst (Searching c.args.graph.now c.args.start (c.loop-step.step + 1)) (sym c.in_ok-add_all-2.ensures.found) (search_goes c.args.graph.now c.args.start c.loop-step.step c.loop-step.found.items c.row-in-loop-step.result.now l (c.row-in-loop-step.ensures ∙ ap (targets c.args.graph.now) q) c.loop-step.invariant.found);
    }

pub unmark-requires-clause-within : goal.unmark-requires-clause-within
unmark-requires-clause-within c = subst (AreBelow (length c.loop-step.marks.items)) (sym c.deref.ensures.value) (all_within c.args.graph.now c.args.start c.loop-step.step c.loop-step.found.items _ c.requires.within c.loop-step.invariant.size c.loop-step.invariant.found)

pub returns-clause-found : goal.returns-clause-found
returns-clause-found c =
    let few = found_few c.args.graph.now c.args.start c.loop-step.step c.loop-step.found.items c.requires.within c.loop-step.invariant.found in
    search_ends c.args.graph.now c.args.start c.loop-step.step c.loop-step.found.items
    (elim c.loop-step-test.branch [
      | else-loop-step-test w ↦ omega (arith, w.loop-step-test.false, few)
      | then-loop-step-test+then-step-len w ↦ omega (arith, w.if-step-len.true, w.len.ensures)
    ])
    c.loop-step.invariant.found
