use Rattle.std.proofs.Common.{false, Some, find, refl, sym, ap, ◌∙◌}
use Rattle.std.specs.Str.{bytes_eq}
use Rattle.cedar_expr_model.specs.Name.{Text}
use Rattle.cedar_expr_model.specs.Tree.{lit}
use Rattle.cedar_expr_model.specs.Value.{truth}
use Rattle.cedar_expr_trees.specs.Trees.{tree_of}
use Rattle.cedar_store_model.specs.Policy.{Policy}
use Rattle.cedar_store_parts.specs.Parts.{effect_of, id_text}
use Rattle.cedar_evaluator_model.specs.Response.{Noted, ErrorState}
use Rattle.cedar_evaluator_model.specs.Members.{left_policy}
use Rattle.cedar_evaluator_requests.specs.Groups.{noted_as, false_seen}
use Rattle.cedar_evaluator_requests.proofs.Listed.{seen_twice}
use Rattle.cedar_evaluator_requests.proofs.Found.{found, not_found}
use Rattle.cedar_evaluator_requests.proofs.searches.false_of.Goals as goal

pub returns-in_ok-policy_left-in-Some : goal.returns-in_ok-policy_left-in-Some
returns-in_ok-policy_left-in-Some c =
    let left : Noted × ErrorState → Policy = (λ n. left_policy (effect_of c.args.effect) n.0 (lit (truth false))) in
    let t = id_text c.args.id.now in
    let es = c.args.group.now.entries in
    let named : Policy → Text = λ p. p.id in
    ap Some (c.in_ok-policy_left-in-Some.ensures ∙ ap (left_policy (effect_of c.args.effect) (noted_as c.in-Some.id.now (c.in-Some.kept.now.1).value)) (ap (tree_of {T = Unit}) c.in_ok-body-in-Some.ensures.ok ∙ c.val.ensures.tree))
    ∙ sym (ap (find (λ p. bytes_eq t (named p))) (seen_twice false_seen left es) ∙ found id_text named (λ x. left (false_seen x)) (λ x. refl) t es c.in-Some.id.now c.in-Some.kept.now (sym c.in-Some.ensures.key) (sym c.in-Some.ensures.value))

pub returns-in-None : goal.returns-in-None
returns-in-None c =
    let left : Noted × ErrorState → Policy = (λ n. left_policy (effect_of c.args.effect) n.0 (lit (truth false))) in
    let t = id_text c.args.id.now in
    let es = c.args.group.now.entries in
    let named : Policy → Text = λ p. p.id in
    sym (ap (find (λ p. bytes_eq t (named p))) (seen_twice false_seen left es) ∙ not_found id_text named (λ x. left (false_seen x)) (λ x. refl) t es (sym c.in-None.ensures.value))
