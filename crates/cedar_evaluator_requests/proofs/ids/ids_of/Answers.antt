use Rattle.indexmap.specs.IndexMap.{keys}
use Rattle.cedar_store_parts.specs.Parts.{id_text}
use Rattle.cedar_evaluator_requests.proofs.Once.{key_step}
use Rattle.cedar_evaluator_requests.proofs.ids.ids_of.Goals as goal

pub loop-id-preserved : goal.loop-id-preserved
loop-id-preserved g c =
    key_step id_text (keys c.args.group.now) c.loop-id.id-iterator c.next.new.self c.loop-id.ids.keys c.insert.new.self.keys c.in-Some.id.now c.in_ok-clone.field-0 c.keys-id-items.ensures.unique c.loop-id.invariant c.in-Some.ensures.steps c.in_ok-clone.ensures.cases c.in_ok-insert.ensures.keys
