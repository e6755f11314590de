use Rattle.std.proofs.Common.{◌++◌, ◌∷◌, [], sym, ap, ◌∙◌, append_assoc}
use Rattle.std.specs.Vec.Iter.{into_iter_items}
use Rattle.cedar_evaluator_restricted_exprs.proofs.value_parts.all_of.Goals as goal

pub loop-item-preserved : goal.loop-item-preserved
loop-item-preserved g c =
    let rest = into_iter_items c.next.new.self in
    let done = c.loop-item.all.items in
    ap (λ v. v ++ rest) c.in_ok-push.ensures.items
    ∙ append_assoc done (c.in-Some.item ∷ []) rest
    ∙ ap (λ r. done ++ r) (sym c.in-Some.ensures.steps.0)
    ∙ c.loop-item.invariant
