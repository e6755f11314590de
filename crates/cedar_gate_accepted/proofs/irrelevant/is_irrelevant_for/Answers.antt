use Rattle.std.proofs.Common.{◌≡◌, Bool, map, ap, ◌∙◌, IfOk, subst}
use Rattle.std.specs.List.{list_all}
use Rattle.cedar_gate_accepted.specs.Checks.{kind_asked, is_excused_for}
use Rattle.cedar_gate_accepted.proofs.Excused.{all_filtered_twice}
use Rattle.cedar_store_policies.specs.Policies.{policy_of}
use Rattle.cedar_store_policies.specs.Templates.{template_of}
use Rattle.cedar_typechecker_environments.specs.Settings.{environment_of}
use Rattle.cedar_typechecker_model.specs.Verdicts.{is_false, fits, is_of_request, condition_type, policy_environments}
use Rattle.cedar_gate_accepted.proofs.irrelevant.is_irrelevant_for.Goals as goal

pub returns : goal.returns
returns g c =
    let s = g.S.DeclaredAttributes.schema c.args.schema.now in
    let x = g.S.TypingSchema.table c.args.schema.now in
    let p = policy_of c.args.policy.now in
    let r = kind_asked c.args.kind.now in
    let envs = ap (map environment_of) c.as_slice.ensures.value ∙ c.in_ok-envs.ensures ∙ ap (policy_environments s) (ap template_of c.deref.ensures ∙ c.template.ensures.template) in
    subst (λ (b : Bool). IfOk c.are_excused.result (λ a. a ≡ b))
    (ap (list_all (is_excused_for r s x p)) envs ∙ all_filtered_twice (λ e. is_false (condition_type s x p e)) (fits p) (is_of_request r) (policy_environments s p))
    c.are_excused.ensures
