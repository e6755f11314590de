use Rattle.std.proofs.Common.{option_map, subst}
use Rattle.std.specs.String.{string_bytes}
use Rattle.std.proofs.lemmas.Result.{IfOk-weaker}
use Rattle.cedar_database_host.proofs.LookupLemmas.{body_found}
use Rattle.cedar_database_host.specs.Lookup.{IsBody}
use Rattle.cedar_database_host.proofs.table.find_body.Goals as goal

pub returns-in-Ok-clause-body : goal.returns-in-Ok-clause-body
returns-in-Ok-clause-body g c clean lookup = IfOk-weaker c.body_of.result _ _
    (λ o is. body_found _ _ c.args.key.now c.in-Ok.rows.items (option_map string_bytes o) lookup (c.in-Ok.ensures.shown clean) (subst (λ rows. IsBody rows (option_map string_bytes o)) c.as_slice.ensures.value is)) c.body_of.ensures
