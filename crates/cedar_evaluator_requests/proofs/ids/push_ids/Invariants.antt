use Rattle.std.proofs.Common.{◌≡◌, ◌++◌, map}
use Rattle.cedar_store_parts.specs.Parts.{id_text}
use Rattle.cedar_evaluator_requests.specs.Groups.{residual_seen}
use Rattle.cedar_evaluator_requests.proofs.ids.push_ids.Given as goal

abbrev pub invariant-loop-id : goal.invariant-loop-id
invariant-loop-id l = map (λ i. id_text i.now) l.ids.items ++ map (λ n. (n.0).id) (map residual_seen l.id-iterator) ≡ map (λ i. id_text i.now) l.initial.ids.items ++ map (λ n. (n.0).id) (map residual_seen l.group.entries)
