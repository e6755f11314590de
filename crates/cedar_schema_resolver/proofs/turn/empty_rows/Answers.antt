use Rattle.std.proofs.Common.{sym, subst, rules}
use Rattle.cedar_schema_resolver.specs.Rows.{HasEmptyRows}
use Rattle.cedar_schema_resolver.proofs.Turning.{one_empty}
use Rattle.cedar_schema_resolver.proofs.turn.empty_rows.Goals as goal

pub loop-preserved : goal.loop-preserved
loop-preserved c = record {
  size = search rules;
  empty = subst HasEmptyRows (sym c.in_ok-push.ensures.items) (one_empty c.loop.rows.items c.new.result c.new.ensures.items c.loop.invariant.empty);
}
