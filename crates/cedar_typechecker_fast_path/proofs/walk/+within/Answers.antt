use Rattle.std.proofs.Common.{rules, arith, ◌≡◌, ◌≢◌, IfOk, None, true≢false, map, refl, sym, ap, subst, ◌∙◌, zero-le}
use Rattle.std.specs.Rc.{rc_str_bytes}
use Rattle.cedar_expr_leaves.specs.Operators.{binary_op_of}
use Rattle.cedar_expr_model.specs.Builder.{trees}
use Rattle.cedar_expr_model.specs.Tree.{choice, both, either, binary, get_attr, has_attr, set_literal}
use Rattle.cedar_expr_trees.specs.Trees.{tree_of, kind_tree}
use Rattle.cedar_expr_trees.proofs.Trees.{set_tree}
use Rattle.cedar_schema_model.specs.Types.{any_bool, bool_type}
use Rattle.cedar_schema_types.specs.Kinds.{bool_type_of}
use Rattle.cedar_schema_types.specs.Types.{type_of}
use Rattle.cedar_schema_types.specs.declared.kinds.BoolType.TheVariants.{True, False}
use Rattle.cedar_typechecker_environments.specs.Facts.{facts_of}
use Rattle.cedar_typechecker_environments.specs.Settings.{setting_of}
use Rattle.cedar_typechecker_model.specs.Facts.{union}
use Rattle.cedar_typechecker_model.specs.Typing.{plain, chosen}
use Rattle.cedar_typechecker_operators.proofs.Smaller.{members_are_smaller}
use Rattle.cedar_typechecker_fast_path.specs.Within.{LeadsWithin, StaysWithin, StayWithin, IsWithinIfAny, judgement_told}
use Rattle.cedar_typechecker_fast_path.proofs.Parts.{get_is, has_is, entity_is, binary_is, and_is, and_stays, or_is, or_stays, choice_is, choice_stays, choice_leads}
use Rattle.cedar_typechecker_fast_path.proofs.Rows.{one_more_stays, tree_more}
use Rattle.cedar_typechecker_fast_path.proofs.Stepping.{operator_stays, operator_leads, attribute_stays, attribute_leads, test_stays}
use Rattle.cedar_typechecker_fast_path.proofs.walk.+within.Goals.{and_within-in-False, and_within-in_default-matches, or_within-in-True, or_within-in_default-matches}
use Rattle.cedar_typechecker_fast_path.proofs.walk.+within.Goals as goal

pub and_within-returns : goal.and_within-returns
and_within-returns g t c =
    let n = c.args.level in
    let s = setting_of g.S.DeclaredAttributes.schema g.S.TypingSchema.table c.args.world.now in
    let known = facts_of c.args.known.now in
    let a = tree_of {T = Unit} c.args.left.now in
    let b = tree_of {T = Unit} c.args.right.now in
    let l = c.in-Bool.b in
    let j = judgement_told c.in-Some.first in
    let k = judgement_told c.in-Some-2.second in
    let one : StaysWithin n s known a j c.in-Some.first.steps = subst (IsWithinIfAny n s known a) c.in-Some.is c.in_ok-first.ensures in
    let then : StaysWithin n s (facts_of c.in_ok-then.then) b k c.in-Some-2.second.steps = subst (IsWithinIfAny n s (facts_of c.in_ok-then.then) b) c.in-Some-2.is c.in_ok-second.ensures in
    let two : StaysWithin n s (union known j.facts) b k c.in-Some-2.second.steps = subst (λ f. StaysWithin n s f b k c.in-Some-2.second.steps) c.in_ok-then.ensures then in
    let is : j.type ≡ bool_type (bool_type_of l) = ap type_of c.in-Bool.is in
    let not : l ≢ False = elim c.match-matches.branch [
      | and_within-in-False w ↦ absurd (true≢false (sym w.matches-is ∙ c.if-matches.false))
      | and_within-in_default-matches w ↦ w.in_default-matches.not-False
    ] in
    c.judged_within.ensures n s known (both a b) (and_is n s known a b j one.judged one.within l is k two.judged not ∙ sym c.in_ok-judged.ensures) (and_stays n s known a b j one.judged one.within l is k two.within) (λ path. (zero-le, refl))

pub or_within-returns : goal.or_within-returns
or_within-returns g t c =
    let n = c.args.level in
    let s = setting_of g.S.DeclaredAttributes.schema g.S.TypingSchema.table c.args.world.now in
    let known = facts_of c.args.known.now in
    let a = tree_of {T = Unit} c.args.left.now in
    let b = tree_of {T = Unit} c.args.right.now in
    let l = c.in-Bool.b in
    let j = judgement_told c.in-Some.first in
    let k = judgement_told c.in-Some-2.second in
    let one : StaysWithin n s known a j c.in-Some.first.steps = subst (IsWithinIfAny n s known a) c.in-Some.is c.in_ok-first.ensures in
    let two : StaysWithin n s known b k c.in-Some-2.second.steps = subst (IsWithinIfAny n s known b) c.in-Some-2.is c.in_ok-second.ensures in
    let is : j.type ≡ bool_type (bool_type_of l) = ap type_of c.in-Bool.is in
    let not : l ≢ True = elim c.match-matches.branch [
      | or_within-in-True w ↦ absurd (true≢false (sym w.matches-is ∙ c.if-matches.false))
      | or_within-in_default-matches w ↦ w.in_default-matches.not-True
    ] in
    c.judged_within.ensures n s known (either a b) (or_is n s known a b j one.judged one.within l is k two.judged not ∙ sym c.in_ok-judged.ensures) (or_stays n s known a b j one.judged one.within l is k two.within) (λ path. (zero-le, refl))

pub binary_within-returns : goal.binary_within-returns
binary_within-returns g t c =
    let n = c.args.level in
    let s = setting_of g.S.DeclaredAttributes.schema g.S.TypingSchema.table c.args.world.now in
    let known = facts_of c.args.known.now in
    let a = tree_of {T = Unit} c.args.arg1.now in
    let b = tree_of {T = Unit} c.args.arg2.now in
    let o = binary_op_of c.args.op in
    let j = judgement_told c.in-Some.first in
    let k = judgement_told c.in-Some-2.second in
    let m = c.in-Some-operator_steps.steps in
    let one : StaysWithin n s known a j c.in-Some.first.steps = subst (IsWithinIfAny n s known a) c.in-Some.is c.in_ok-first.ensures in
    let two : StaysWithin n s known b k c.in-Some-2.second.steps = subst (IsWithinIfAny n s known b) c.in-Some-2.is c.in_ok-second.ensures in
    let steps = sym c.operator_steps.ensures ∙ c.in-Some-operator_steps.is in
    c.judged_within.ensures n s known (binary o a b) (binary_is s known a j one.judged o b k two.judged ∙ sym c.in_ok-judged.ensures)
    (operator_stays n s known a b c.in-Some.first.steps m one.within one.leads two.within o steps) (operator_leads n s known a b c.in-Some.first.steps m one.within one.leads two.within o steps)

pub get_within-returns : goal.get_within-returns
get_within-returns g t c =
    let n = c.args.level in
    let s = setting_of g.S.DeclaredAttributes.schema g.S.TypingSchema.table c.args.world.now in
    let known = facts_of c.args.known.now in
    let a = tree_of {T = Unit} c.args.expr.now in
    let name = rc_str_bytes c.args.attr.now in
    let j = judgement_told c.in-Some.of in
    let m = c.in-Some-attribute_steps.steps in
    let one : StaysWithin n s known a j c.in-Some.of.steps = subst (IsWithinIfAny n s known a) c.in-Some.is c.in_ok-of.ensures in
    let steps = sym c.attribute_steps.ensures ∙ c.in-Some-attribute_steps.is in
    c.plainly_within.ensures n s known (get_attr a name) (get_is s known a j one.judged name ∙ ap plain (sym c.in_ok-ty.ensures))
    (attribute_stays n s known a name c.in-Some.of.steps one.within one.leads _ m (entity_is s known a j one.judged) steps) (attribute_leads n s known a name c.in-Some.of.steps one.within one.leads _ m (entity_is s known a j one.judged) steps)

pub has_within-returns : goal.has_within-returns
has_within-returns g t c =
    let n = c.args.level in
    let s = setting_of g.S.DeclaredAttributes.schema g.S.TypingSchema.table c.args.world.now in
    let known = facts_of c.args.known.now in
    let a = tree_of {T = Unit} c.args.expr.now in
    let name = rc_str_bytes c.args.attr.now in
    let j = judgement_told c.in-Some.of in
    let one : StaysWithin n s known a j c.in-Some.of.steps = subst (IsWithinIfAny n s known a) c.in-Some.is c.in_ok-of.ensures in
    let steps = sym c.attribute_steps.ensures ∙ c.in-Some-attribute_steps.is in
    c.judged_within.ensures n s known (has_attr a name) (has_is s known a j one.judged name ∙ sym c.in_ok-judged.ensures)
    (test_stays n s known a name c.in-Some.of.steps one.within one.leads _ c.in-Some-attribute_steps.field-0 (entity_is s known a j one.judged) steps) (λ path. (zero-le, refl))

pub if_within-returns : goal.if_within-returns
if_within-returns g t c =
    let n = c.args.level in
    let s = setting_of g.S.DeclaredAttributes.schema g.S.TypingSchema.table c.args.world.now in
    let known = facts_of c.args.known.now in
    let u = tree_of {T = Unit} c.args.test.now in
    let a = tree_of {T = Unit} c.args.first.now in
    let b = tree_of {T = Unit} c.args.second.now in
    let j = judgement_told c.in-Some.tested in
    let k = judgement_told c.in-Some-2.first in
    let q = judgement_told c.in-Some-3.second in
    let i = c.in-Some-2.first.steps in
    let m = c.in-Some-3.second.steps in
    let asked : StaysWithin n s known u j c.in-Some.tested.steps = subst (IsWithinIfAny n s known u) c.in-Some.is c.in_ok-tested.ensures in
    let test : StaysWithin n s known u j None = record { judged = asked.judged; within = asked.within; leads = tt } in
    let then : StaysWithin n s (facts_of c.in_ok-then.then) a k i = subst (IsWithinIfAny n s (facts_of c.in_ok-then.then) a) c.in-Some-2.is c.in_ok-first.ensures in
    let one : StaysWithin n s (union known j.facts) a k i = subst (λ f. StaysWithin n s f a k i) c.in_ok-then.ensures then in
    let two : StaysWithin n s known b q m = subst (IsWithinIfAny n s known b) c.in-Some-3.is c.in_ok-second.ensures in
    let may : j.type ≡ bool_type any_bool = ap type_of c.in-Bool.is ∙ ap (λ l. bool_type (bool_type_of l)) c.in-AnyBool.is in
    c.judged_within.ensures n s known (choice u a b)
    (choice_is n s known u a b j k q i m may test one two ∙ (λ r. chosen s k.type (sym c.in_ok-own.ensures r) q.type q.facts) ∙ sym c.in_ok-judged.ensures)
    (choice_stays n s known u a b j k q i m may test one two)
    (subst (LeadsWithin n s known (choice u a b)) (sym c.greater.ensures) (choice_leads n s known u a b j k q i m may test one two))

pub all_within-loop-e-preserved : goal.all_within-loop-e-preserved
all_within-loop-e-preserved g t c =
    let n = c.args.level in
    let s = setting_of g.S.DeclaredAttributes.schema g.S.TypingSchema.table c.args.world.now in
    let known = facts_of c.args.known.now in
    let e = c.e-item.result in
    let one : StaysWithin n s known (tree_of {T = Unit} e) (judgement_told c.in-Some.of) c.in-Some.of.steps = subst (IsWithinIfAny n s known (tree_of {T = Unit} e)) c.in-Some.is c.in_ok-of.ensures in
    let more : StayWithin n s known _ c.push.new.self.items = one_more_stays n s known (tree_of {T = Unit} e) _ c.loop-e.types.items c.push.new.self.items c.in-Some.of.ty (facts_of c.in-Some.of.known) c.loop-e.invariant one.judged one.within c.in_ok-push-in-Some.ensures.items in
    subst (λ ts. StayWithin n s known ts c.push.new.self.items) (tree_more c.args.exprs.now c.loop-e.e-index e e c.loop-e-test.true c.e-item.is) more

pub typed_within-set_within-requires : goal.typed_within-set_within-requires
typed_within-set_within-requires g t c κs within =
    let made = c.in-Set in
    let smaller = members_are_smaller {T = Unit} c.args.expr.now made.members c.as_slice.result.now (sym c.expr_kind.ensures.kind ∙ made.is) (c.as_slice.ensures.value ∙ ap (λ v. v.items) c.deref-in-Set.ensures) in
    (omega (arith, smaller), search rules)

pub typed_within-returns-in-Set : goal.typed_within-returns-in-Set
typed_within-returns-in-Set g t c =
    let made = c.in-Set in
    let is = ap (λ es. set_literal (trees (map (tree_of {T = Unit}) es))) (c.as_slice.ensures.value ∙ ap (λ v. v.items) c.deref-in-Set.ensures) ∙ sym (set_tree {T = Unit} made.members) ∙ ap (kind_tree {T = Unit}) (sym made.is) ∙ c.expr_kind.ensures.tree in
    subst (λ u. IfOk c.set_within.result (IsWithinIfAny c.args.level (setting_of g.S.DeclaredAttributes.schema g.S.TypingSchema.table c.args.world.now) (facts_of c.args.known.now) u)) is c.set_within.ensures
