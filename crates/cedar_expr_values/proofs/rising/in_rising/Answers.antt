use Rattle.std.proofs.Common.{◌∙◌}
use Rattle.std.proofs.lemmas.List.Filters.{dedup_is}
use Rattle.cedar_expr_values.proofs.Deduplicated.{deduplicated}
use Rattle.cedar_expr_values.proofs.rising.in_rising.Goals as goal

pub returns : goal.returns
returns g c =
    let e = c.in_ok-sort.ensures in
    dedup_is _ _ _ c.dedup.ensures.filtered ∙ deduplicated g.met.T.Ord.total _ g.met.T.Ord.matches_eq c.args.values.items c.sort.new.self.items e.sorted e.stable
