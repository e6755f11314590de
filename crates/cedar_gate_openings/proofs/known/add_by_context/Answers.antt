use Rattle.std.proofs.Common.{◌≡◌, ◌++◌, OnOk, Some, option_map, rules, sym, subst}
use Rattle.cedar_evaluator_requests.specs.Views.{context_or_unknown}
use Rattle.cedar_evaluator_requests.specs.declared.context.Context.TheVariants.{Value}
use Rattle.cedar_gate_openings.specs.Mentions.{uids}
use Rattle.cedar_gate_openings.specs.Roots.{mentioned_by_context}
use Rattle.cedar_gate_openings.proofs.Rooted.{context_adds}
use Rattle.cedar_gate_openings.proofs.known.add_by_context.Goals as goal

pub returns-in-Some-Value : goal.returns-in-Some-Value
returns-in-Some-Value c =
    let there : option_map (λ k. k.now) c.args.context ≡ Some (Value c.in-Some-Value.fields) = search rules in
    subst (λ o. OnOk c.add_mentioned_in.result (uids c.add_mentioned_in.new.to.items ≡ uids c.args.to.now.items ++ mentioned_by_context (context_or_unknown o))) (sym there)
    (context_adds c.add_mentioned_in.result (uids c.args.to.now.items) (uids c.add_mentioned_in.new.to.items) c.in-Some-Value.fields.0 c.as_map.result.now.entries c.as_map.ensures.as_made c.add_mentioned_in.ensures)
