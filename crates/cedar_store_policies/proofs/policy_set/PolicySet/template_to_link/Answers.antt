use Rattle.std.proofs.Common.{Some, option_map, rules, sym, ap, ◌∙◌}
use Rattle.std.specs.Option.{is_none}
use Rattle.std.specs.Borrow.{Bor}
use Rattle.std.specs.declared.alloc.Global.{Global}
use Rattle.std.specs.declared.rc.Rc.{Rc}
use Rattle.cedar_store_parts.specs.Parts.{id_text, bindings_of}
use Rattle.cedar_store_policies.specs.Templates.{template_of}
use Rattle.cedar_store_policies.specs.PolicySets.{set_of}
use Rattle.cedar_store_policies.specs.Seen.{template_seen}
use Rattle.cedar_store_policies.specs.declared.template.Template.{Template}
use Rattle.cedar_store_policies.proofs.Bound.{refused_by}
use Rattle.cedar_store_policies.proofs.policy_set.PolicySet.template_to_link.Goals as goal

pub returns-in_ok-clone-in-None-clause-refused : goal.returns-in_ok-clone-in-None-clause-refused
returns-in_ok-clone-in-None-clause-refused c =
    let f = sym c.get_template.ensures.template in
    λ n. (ap is_none (f ∙ ap (option_map (λ (y : Bor (Rc Template Global)). template_of y.now.value)) c.in-None.is), search rules)

pub returns-in-Err-clause-refused : goal.returns-in-Err-clause-refused
returns-in-Err-clause-refused c =
    let f = sym c.get_template.ensures.template in
    let found = f ∙ ap (option_map (λ (y : Bor (Rc Template Global)). template_of y.now.value)) c.in-Some.is ∙ ap (λ (t : Template). Some (template_of t)) (sym c.deref.ensures) in
    λ n. refused_by (set_of c.args.self.now) (id_text c.args.id.now) n (bindings_of c.args.values.now) (template_of c.deref.result.now) found c.in-Err.fault c.in-Err.ensures.refused

pub returns-in_ok-clone-in-Ok-clause-found : goal.returns-in_ok-clone-in-Ok-clause-found
returns-in_ok-clone-in-Ok-clause-found c =
    let f = sym c.get_template.ensures.template in
    f ∙ ap (option_map (λ (y : Bor (Rc Template Global)). template_of y.now.value)) c.in-Some.is ∙ ap (λ (t : Template). Some (template_of t)) (sym c.in_ok-clone-in-Ok.ensures.cases)

pub returns-in_ok-clone-in-Ok-clause-seen : goal.returns-in_ok-clone-in-Ok-clause-seen
returns-in_ok-clone-in-Ok-clause-seen c =
    let f = sym c.get_template.ensures.seen in
    f ∙ ap (option_map (λ (y : Bor (Rc Template Global)). template_seen y.now.value)) c.in-Some.is ∙ ap (λ (t : Template). Some (template_seen t)) (sym c.in_ok-clone-in-Ok.ensures.cases)
