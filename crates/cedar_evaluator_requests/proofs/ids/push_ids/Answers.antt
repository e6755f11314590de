use Rattle.std.proofs.Common.{map, refl}
use Rattle.cedar_store_parts.specs.Parts.{id_text}
use Rattle.cedar_evaluator_requests.specs.Groups.{residual_seen}
use Rattle.cedar_evaluator_requests.proofs.Listed.{one_more}
use Rattle.cedar_evaluator_requests.proofs.ids.push_ids.Goals as goal

pub loop-id-preserved : goal.loop-id-preserved
loop-id-preserved c =
    one_more residual_seen (λ n. (n.0).id) (λ i. id_text i.now) (map (λ i. id_text i.now) c.args.ids.now.items) c.loop-id.ids.items c.push.new.self.items c.args.group.now.entries c.loop-id.id-iterator c.next.new.self (c.in-Some.id.now, c.in-Some._kept.now) c.in-Some.id c.loop-id.invariant c.in-Some.ensures.steps c.in_ok-push.ensures.items refl
