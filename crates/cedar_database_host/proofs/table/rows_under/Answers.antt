use Rattle.cedar_database_host.proofs.LookupLemmas.{outcome_stays}
use Rattle.cedar_database_host.proofs.table.rows_under.Goals as goal

pub returns-clause-looks : goal.returns-clause-looks
returns-clause-looks g c = record {
  clean = c.query_all.ensures.survives.clean;
  stays = λ clean is_open settled. outcome_stays (λ rows. rows.items) _ _ _ c.query_all.result (c.query_all.ensures.ok clean) (c.query_all.ensures.err clean) settled is_open;
}
