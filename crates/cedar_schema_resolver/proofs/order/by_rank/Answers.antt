use Rattle.std.proofs.Common.{map, ap, ◌∙◌, subst}
use Rattle.std.specs.List.Sorted.{IsPermutation}
use Rattle.cedar_schema_resolver.proofs.order.by_rank.Goals as goal

pub returns : goal.returns
returns c = record {
  ranks = c.sorted-ranks.result.items;
  same = subst (λ rs. IsPermutation rs c.sorted-ranks.result.items) c.in_ok-ranks.ensures c.sorted-ranks.ensures.same;
  rise = c.sorted-ranks.ensures.rise;
  are = c.in_ok-ordered.ensures ∙ ap (map (λ r. r.node)) c.deref.ensures.value;
}
