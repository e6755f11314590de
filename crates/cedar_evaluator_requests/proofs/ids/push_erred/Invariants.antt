use Rattle.std.proofs.Common.{◌≡◌, ◌++◌, map}
use Rattle.std.specs.List.{filter_map}
use Rattle.cedar_store_parts.specs.Parts.{id_text}
use Rattle.cedar_evaluator_model.specs.Members.{id_if_erred}
use Rattle.cedar_evaluator_requests.specs.Groups.{false_seen}
use Rattle.cedar_evaluator_requests.proofs.ids.push_erred.Given as goal

abbrev pub invariant-loop-id : goal.invariant-loop-id
invariant-loop-id l = map (λ i. id_text i.now) l.ids.items ++ filter_map id_if_erred (map false_seen l.id-iterator) ≡ map (λ i. id_text i.now) l.initial.ids.items ++ filter_map id_if_erred (map false_seen l.group.entries)
