use Rattle.std.proofs.Common.{rules, ◌++◌, ◌∷◌, [], ap, sym, ◌∙◌, append_assoc, refl, subst}
use Rattle.std.proofs.lemmas.List.{append-nil}
use Rattle.std.specs.Vec.Iter.{into_iter_items}
use Rattle.cedar_gate_wanted.specs.Rows.{found_at}
use Rattle.cedar_gate_wanted.specs.Supplying.{rows_of, IsFilled}
use Rattle.cedar_gate_wanted.proofs.Filling.{filled_none, filled_more, filled_others}
use Rattle.cedar_gate_wanted.proofs.rows.put_rows.Goals as goal

pub loop-uid-init : goal.loop-uid-init
loop-uid-init c = record { goes = search rules; filled = filled_none _ _ (λ u. refl) }

pub loop-uid-preserved : goal.loop-uid-preserved
loop-uid-preserved c =
    let i = c.loop-uid.invariant in
    let xs = c.loop-uid.yielded in
    record {
      goes = i.goes ∙ ap (λ rest. xs ++ rest) c.in-Some.ensures.steps.0 ∙ sym (append_assoc xs ((c.in-Some.uid, c.in-Some.row) ∷ []) (into_iter_items c.next.new.self));
      filled = filled_more xs c.in-Some.uid c.in-Some.row _ _ _ i.filled c.in_ok-put_row.ensures.here c.in_ok-put_row.ensures.apart;
    }

pub returns-in_err-put_row-clause-others : goal.returns-in_err-put_row-clause-others
returns-in_err-put_row-clause-others c = λ u misses. c.in_err-put_row.ensures.unchanged u ∙ filled_others _ c.loop-uid.yielded _ _ _ c.loop-uid.invariant.goes c.loop-uid.invariant.filled u misses

pub returns-clause-others : goal.returns-clause-others
returns-clause-others c = λ u misses. filled_others _ c.loop-uid.yielded _ _ _ c.loop-uid.invariant.goes c.loop-uid.invariant.filled u misses
