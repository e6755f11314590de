use Rattle.std.proofs.Common.{rules}
use Rattle.std.proofs.lemmas.List.Sorted.{IsNonDecreasingBy-from_sort_by_key}
use Rattle.cedar_schema_resolver.proofs.order.sorted.Goals as goal

pub returns-clause-rise : goal.returns-clause-rise
returns-clause-rise c = IsNonDecreasingBy-from_sort_by_key (λ r. r.count) _ c.sort_unstable_by_key.ensures.sorted (λ a r q k. search rules)
