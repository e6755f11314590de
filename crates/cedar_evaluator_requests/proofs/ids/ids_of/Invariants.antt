use Rattle.std.proofs.Common.{◌≡◌, ◌++◌, map}
use Rattle.indexmap.specs.IndexMap.{keys}
use Rattle.cedar_store_parts.specs.Parts.{id_text}
use Rattle.cedar_evaluator_requests.proofs.ids.ids_of.Given as goal

abbrev pub invariant-loop-id : goal.invariant-loop-id
invariant-loop-id g l = map id_text l.ids.keys ++ map id_text l.id-iterator ≡ map id_text (keys l.group)
