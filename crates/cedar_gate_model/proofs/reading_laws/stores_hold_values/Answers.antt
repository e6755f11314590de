use Rattle.cedar_gate_model.proofs.Reading.Bundles.{stored_once, store_holds_values}
use Rattle.cedar_gate_model.proofs.reading_laws.stores_hold_values.Goals as goal

pub returns-clause-once : goal.returns-clause-once
returns-clause-once c = stored_once

pub returns-clause-values : goal.returns-clause-values
returns-clause-values c = store_holds_values
