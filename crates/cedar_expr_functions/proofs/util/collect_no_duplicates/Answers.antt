use Rattle.std.proofs.lemmas.Grind.{common_steps}
use Rattle.std.proofs.Common.{◌≡◌, ◌++◌, ◌∷◌, [], ap, sym, ◌∙◌, append_assoc, arith}
use Rattle.std.proofs.lemmas.List.Sorted.{IsPermutation-push_more}
use Rattle.std.specs.Vec.Iter.{into_iter_items}
use Rattle.cedar_expr_functions.proofs.Entered.{entered, placed, still_distinct, refused_all}
use Rattle.cedar_expr_functions.proofs.util.collect_no_duplicates.Goals as goal

pub loop-key-preserved : goal.loop-key-preserved
loop-key-preserved g c =
    let seen = c.loop-key.invariant in
    let pairs = c.loop-key.yielded in
    record {
      goes = seen.goes ∙ ap (λ rest. pairs ++ rest) c.in-Some.ensures.steps.0 ∙ sym (append_assoc pairs ((c.in-Some.key, c.in-Some.value) ∷ []) (into_iter_items c.next.new.self));
      made = entered g.K.Ord.cmp g.met.K.Ord.total c.loop-key.map c.add_new.new.map pairs c.in-Some.key c.in-Some.value seen.made c.in_ok-add_new.ensures.absent c.in_ok-add_new.ensures.added;
      moved = IsPermutation-push_more pairs c.loop-key.map.entries c.add_new.new.map.entries (c.in-Some.key, c.in-Some.value) seen.moved (placed g.K.Ord.cmp c.loop-key.map c.add_new.new.map c.in-Some.key c.in-Some.value c.in_ok-add_new.ensures.absent c.in_ok-add_new.ensures.entries);
      distinct = still_distinct g.K.Ord.cmp g.met.K.Ord.total c.loop-key.map pairs c.in-Some.key c.in-Some.value seen.made seen.distinct c.in_ok-add_new.ensures.absent;
    }

pub returns-in_err-add_new-clause-refused : goal.returns-in_err-add_new-clause-refused
returns-in_err-add_new-clause-refused g c =
    let seen = c.loop-key.invariant in
    let pairs = c.loop-key.yielded in
    let rest = into_iter_items c.next.new.self in
    refused_all g.K.Ord.cmp g.met.K.Ord.total c.loop-key.map pairs rest c.args.pairs.items c.in-Some.key c.in-Some.value seen.made seen.distinct (seen.goes ∙ ap (λ rs. pairs ++ rs) c.in-Some.ensures.steps.0) c.in_err-add_new.field-0.0 c.in_err-add_new.ensures.refused c.from_residual.result c.from_residual.ensures.1

pub returns-clause-finds : goal.returns-clause-finds
returns-clause-finds g c = grind (arith, common_steps)

pub returns-clause-pairs : goal.returns-clause-pairs
returns-clause-pairs g c = grind (arith, common_steps)

pub returns-clause-distinct : goal.returns-clause-distinct
returns-clause-distinct g c = grind (arith, common_steps)
