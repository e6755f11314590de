use Rattle.std.proofs.Common.{map, ap, sym, ◌∙◌}
use Rattle.std.specs.BTreeMap.{is_at}
use Rattle.std.specs.BTreeSet.{contains}
use Rattle.std.specs.List.{list_any}
use Rattle.cedar_expr_model.specs.Name.{name_eq}
use Rattle.cedar_expr_names.specs.Views.{type_name_of}
use Rattle.cedar_schema_model.specs.Kept.{KeptAction}
use Rattle.cedar_schema_entries.specs.Views.{action_seen}
use Rattle.cedar_typechecker_model.specs.Asked.{is_pair, pairs_of, kind_is_below, is_kind}
use Rattle.cedar_typechecker.specs.Pairs.{types_by, has_pair}
use Rattle.cedar_typechecker.proofs.Gathering.{one_more, none_left, nothing_yet, pairs_each}
use Rattle.cedar_typechecker.proofs.action_types.ActionTypes.of_actions.Goals as goal

pub loop-action-init : goal.loop-action-init
loop-action-init c = record {
  types = λ q. nothing_yet _ _ (ap (list_any (is_at (types_by q))) c.new-types.ensures.empty);
  pairs = λ q r. nothing_yet _ _ (c.new-pairs.ensures q r) ∙ sym (pairs_each (map action_seen c.into_iter-action-iterator.result) (type_name_of q) (type_name_of r));
}

pub loop-action-preserved : goal.loop-action-preserved
loop-action-preserved c =
    let steps = ap (map action_seen) c.in-Some.ensures.steps in
    record {
      types = λ q. one_more (λ (a : KeptAction). name_eq (type_name_of q) a.uid.kind) (map action_seen c.loop-action.action-iterator) (map action_seen c.next.new.self) (action_seen c.in-Some.action.now) steps
          (contains types_by c.loop-action.types q) (contains types_by c.add_type.new.types q) (c.in_ok-add_type.ensures q) _ (c.loop-action.invariant.types q);
      pairs = λ q r. one_more (λ (a : KeptAction). list_any (is_pair (type_name_of q) (type_name_of r)) (pairs_of a)) (map action_seen c.loop-action.action-iterator) (map action_seen c.next.new.self) (action_seen c.in-Some.action.now) steps
          (has_pair c.loop-action.pairs q r) (has_pair c.add_pairs.new.pairs q r) (c.in_ok-add_pairs.ensures q r) _ (c.loop-action.invariant.pairs q r);
    }

pub returns : goal.returns
returns c =
    let left = ap (map action_seen) c.in-None.ensures.steps.0 in
    let all = c.into_iter-action-iterator.ensures.into_iter_gives in
    record {
      types = λ q. none_left (λ (a : KeptAction). name_eq (type_name_of q) a.uid.kind) (map action_seen c.loop-action.action-iterator) left (contains types_by c.loop-action.types q) _ (c.loop-action.invariant.types q)
          ∙ ap (λ as_. is_kind (map action_seen as_) (type_name_of q)) all;
      pairs = λ q r. none_left (λ (a : KeptAction). list_any (is_pair (type_name_of q) (type_name_of r)) (pairs_of a)) (map action_seen c.loop-action.action-iterator) left (has_pair c.loop-action.pairs q r) _ (c.loop-action.invariant.pairs q r)
          ∙ ap (λ as_. kind_is_below (map action_seen as_) (type_name_of q) (type_name_of r)) all;
    }
