use Rattle.std.proofs.lemmas.Grind.{common_steps}
use Rattle.std.proofs.Common.{◌++◌, ◌∷◌, [], ap, sym, ◌∙◌, append_assoc, arith}
use Rattle.std.specs.Vec.Iter.{into_iter_items}
use Rattle.cedar_expr_values.proofs.Pairs.{entries_more}
use Rattle.cedar_expr_trees.proofs.Repeated.{still_distinct, refused_all}
use Rattle.cedar_expr_trees.proofs.records.field_map.Goals as goal

pub loop-name-preserved : goal.loop-name-preserved
loop-name-preserved g c =
    let seen = c.loop-name.invariant in
    let old = c.loop-name.fields.entries in
    let pairs = c.loop-name.yielded in
    record {
      goes = seen.goes ∙ ap (λ rest. pairs ++ rest) c.in-Some.ensures.steps.0 ∙ sym (append_assoc pairs ((c.in-Some.name, c.in-Some.value) ∷ []) (into_iter_items c.next.new.self));
      made = entries_more c.in-Some.name c.in-Some.value old c.add_field.new.fields.entries pairs c.in_ok-add_field.ensures.added seen.made;
      distinct = still_distinct old pairs c.in-Some.name c.in-Some.value seen.made seen.distinct c.in_ok-add_field.ensures.absent;
    }

pub returns-in_err-add_field-clause-refused : goal.returns-in_err-add_field-clause-refused
returns-in_err-add_field-clause-refused g c =
    let seen = c.loop-name.invariant in
    let pairs = c.loop-name.yielded in
    let rest = into_iter_items c.next.new.self in
    refused_all c.loop-name.fields.entries pairs rest c.in-Some.name c.in-Some.value seen.made seen.distinct c.args.pairs.items c.in_err-add_field.field-0.0 c.from_residual.result (seen.goes ∙ ap (λ rs. pairs ++ rs) c.in-Some.ensures.steps.0) c.from_residual.ensures.1 c.in_err-add_field.ensures.refused

pub returns-clause-made : goal.returns-clause-made
returns-clause-made g c = grind (arith, common_steps)

pub returns-clause-distinct : goal.returns-clause-distinct
returns-clause-distinct g c = grind (arith, common_steps)
