use Rattle.std.proofs.Common.{◌||◌, ◌&&◌, map, ap, ◌∙◌}
use Rattle.std.specs.List.{list_any}
use Rattle.cedar_expr_model.specs.Name.{name_eq}
use Rattle.cedar_expr_model.specs.Uid.{Uid}
use Rattle.cedar_expr_names.specs.Views.{type_name_of, uid_of}
use Rattle.cedar_schema_entries.specs.Views.{action_seen}
use Rattle.cedar_typechecker_model.specs.Asked.{is_pair, pairs_of}
use Rattle.cedar_typechecker.specs.Pairs.{has_pair}
use Rattle.cedar_typechecker.proofs.Gathering.{one_more, none_left, pairs_under}
use Rattle.cedar_typechecker.proofs.action_types.add_pairs.Goals as goal

pub loop-below-init : goal.loop-below-init
loop-below-init c = λ q r.
    ap (λ us. list_any (is_pair (type_name_of q) (type_name_of r)) (pairs_under (action_seen c.args.action.now) us) || has_pair c.args.pairs.now q r)
    (ap (map uid_of) c.into_iter-below-iterator.ensures.into_iter_gives ∙ c.descendants-below-items.ensures)

pub loop-below-preserved : goal.loop-below-preserved
loop-below-preserved c = λ q r.
    let a = action_seen c.args.action.now in
    let first = c.in_ok-first.ensures.cases.0 ∙ c.entity_type.ensures in
    let second = c.in_ok-second.ensures.cases.0 ∙ c.entity_type-in-loop-below.ensures ∙ ap (λ (u : Uid). u.kind) c.name.ensures in
    one_more (is_pair (type_name_of q) (type_name_of r)) (pairs_under a (map uid_of c.loop-below.below-iterator)) (pairs_under a (map uid_of c.next.new.self)) (record { below = (uid_of c.in-Some.below.now).kind; above = a.uid.kind })
    (ap (λ us. pairs_under a (map uid_of us)) c.in-Some.ensures.steps)
    (has_pair c.loop-below.pairs q r) (has_pair c.insert.new.self q r)
    (c.in_ok-insert.ensures.added q r ∙ (λ i. (name_eq (type_name_of q) (first i) && name_eq (type_name_of r) (second i)) || has_pair c.loop-below.pairs q r))
    _ (c.loop-below.invariant q r)

pub returns : goal.returns
returns c = λ q r.
    none_left (is_pair (type_name_of q) (type_name_of r)) (pairs_under (action_seen c.args.action.now) (map uid_of c.loop-below.below-iterator))
    (ap (λ us. pairs_under (action_seen c.args.action.now) (map uid_of us)) c.in-None.ensures.steps.0) (has_pair c.loop-below.pairs q r) _ (c.loop-below.invariant q r)
