use Rattle.std.proofs.Common.{rules}
use Rattle.cedar_gate_bundles.specs.Written.{entity_pair_made}
use Rattle.cedar_database_host.proofs.filling.put_entity.Goals as goal

pub returns-in-Ok-put_body-clause-put : goal.returns-in-Ok-put_body-clause-put
returns-in-Ok-put_body-clause-put g c = (entity_pair_made c.in-Ok.entity, c.in-Ok.ensures.ok, λ clean. search rules)
