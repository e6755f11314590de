use Rattle.cedar_store_model.proofs.Alone.{reads_as_alone}
use Rattle.cedar_store_model.proofs.world_laws.reads_ask_the_store.Goals as goal

pub returns : goal.returns
returns c = reads_as_alone
