use Rattle.std.proofs.Common.{◌≡◌, ◌∙◌, ap, sym, rules, map, Some, option_map, option_and_then}
use Rattle.std.specs.Rc.{rc_str_bytes}
use Rattle.std.specs.declared.alloc.Global.{Global}
use Rattle.std.specs.declared.rc.RcStr.{RcStr}
use Rattle.cedar_expr_leaves.specs.declared.non_empty.NonEmpty.{NonEmpty}
use Rattle.cedar_expr_trees.specs.Trees.{tree_of}
use Rattle.cedar_schema_types.specs.Types.{type_of}
use Rattle.cedar_typechecker_environments.specs.Settings.{setting_of}
use Rattle.cedar_typechecker_environments.specs.Facts.{facts_of}
use Rattle.cedar_typechecker_model.specs.Typing.{path_judged}
use Rattle.cedar_typechecker_model.specs.Typed.{path_typed}
use Rattle.cedar_typechecker_answers.specs.Answers.{seen, judgement_seen}
use Rattle.cedar_typechecker_operators.proofs.TypedRows.{answered}
use Rattle.cedar_typechecker_operators.proofs.PathTests.{path_noted}
use Rattle.cedar_typechecker_operators.proofs.paths.path_answer.Goals as goal

pub returns : goal.returns
returns g c =
    let s = setting_of g.S.DeclaredAttributes.schema g.S.TypingSchema.table c.args.world.now in
    let e = tree_of c.args.of.now.value in
    let path = c.args.path.now.value in
    let t = type_of c.in-Some.operand in
    let x = c.in-Success.expr in
    let judged : option_map judgement_seen c.in_ok-judged.judged ≡ path_judged s (rc_str_bytes path.head) (map rc_str_bytes path.tail.items) e t =
    c.in_ok-judged.ensures
    ∙ ap (λ (n : NonEmpty (RcStr Global)). path_judged s (rc_str_bytes n.head) (map rc_str_bytes c.as_slice.result.now) e t) c.deref.ensures
    ∙ ap (λ xs. path_judged s (rc_str_bytes path.head) (map rc_str_bytes xs) e t) (c.as_slice.ensures.value ∙ ap (λ (n : NonEmpty (RcStr Global)). n.tail.items) c.deref-2.ensures) in
    let same : c.in_ok-expr.expr.value ≡ x = c.in_ok-expr.ensures.ok in
    let held : x.«data» ≡ Some c.in-Some.operand = sym c.data.ensures ∙ c.in-Some.is in
    let attrs : c.in_ok-attrs.attrs.value ≡ path = search rules in
    answered c.judged_node.result _ _
    (path_noted s e path x c.in_ok-expr.expr.value (facts_of c.in-Success.expr_capability) c.in-Some.operand c.in_ok-attrs.attrs.value (option_map judgement_seen c.in_ok-judged.judged) same held attrs judged
    ∙ ap (λ a. option_and_then (path_typed s e (rc_str_bytes path.head) (map rc_str_bytes path.tail.items)) (seen a)) (sym c.in-Success.is))
    c.judged_node.ensures
