use Rattle.cedar_database_host.proofs.TableLemmas.{looks_up_what_is_made}
use Rattle.cedar_database_host.proofs.laws.what_is_made_is_looked_up.Goals as goal

pub returns : goal.returns
returns c = looks_up_what_is_made
