-- What an answer of typing says of the type and the violations of a condition.
use Rattle.std.proofs.Common.{◌≡◌, ℕ, true, false, [], Option, Some, None, refl, ap, sym, ◌∙◌, subst, MatchOption, is_some}
use Rattle.std.specs.Prelude.{option_map}
use Rattle.std.specs.Option.{option_map_or}
use Rattle.cedar_expr_model.specs.Tree.{Tree}
use Rattle.cedar_expr_trees.specs.Trees.{tree_of}
use Rattle.cedar_expr_trees.specs.declared.expr.Expr.{Expr}
use Rattle.cedar_typechecker_policies.specs.Conditions.{IsTypedAs, IsVerdictOf}
use Rattle.cedar_typechecker_policies.specs.declared.verdict.Verdict.{Verdict}
use Rattle.cedar_typechecker_policies.proofs.Marked.{same_kinds}
use Rattle.cedar_schema_model.specs.Types.{Ty}
use Rattle.cedar_schema_types.specs.Types as code
use Rattle.cedar_schema_types.specs.declared.types.Type.{«Type» as CodeType}
use Rattle.cedar_typechecker_answers.specs.Answers.{typed_at}
use Rattle.cedar_typechecker_levels.specs.Marked.{marks_of}
use Rattle.cedar_typechecker_model.specs.Facts.{Facts, no_facts}
use Rattle.cedar_typechecker_model.specs.Levels.{violations}
use Rattle.cedar_typechecker_model.specs.Rules.{Setting}
use Rattle.cedar_typechecker_model.specs.Typing.{type_of}
use Rattle.cedar_typechecker_answers.specs.Marked.{kind_marks}
use Rattle.cedar_typechecker_model.specs.Counts.{violations_at}
use Rattle.cedar_typechecker_model.specs.TypedLaws.{TypedAsJudged, SameTree, CountedOnMarks, judgement_of}
use Rattle.cedar_typechecker_model.specs.Typed.{Typed, typed, mark, marked}

type_in_judged : (o : Option Typed) → option_map (λ j. j.type) (option_map judgement_of o) ≡ option_map (λ x. x.type) o
type_in_judged None = refl
type_in_judged (Some x) = refl

-- the type of what is typed
typed_type : TypedAsJudged → (s : Setting) (t : Tree) (o : Option Typed) → typed s no_facts t ≡ o → type_of s t ≡ option_map (λ x. x.type) o
typed_type law s t o h = ap (option_map (λ j. j.type)) (sym (law s no_facts t)) ∙ type_in_judged (typed s no_facts t) ∙ ap (option_map (λ x. x.type)) h

-- the type and what is violated where nothing is typed
pub no_type : TypedAsJudged → (s : Setting) (t : Tree) → typed s no_facts t ≡ None → None ≡ type_of s t
no_type law s t h = sym (typed_type law s t None h)

module _ (s : Setting) (t : Tree) (e : Expr (Option CodeType)) where
  of_data : (f : Facts) (d : Option CodeType) → e.«data» ≡ d → is_some d ≡ true → typed_at e f d ≡ typed s no_facts t → IsTypedAs s t e
  of_data f None h k j = absurd (let l : false ≡ true = k in cc)
  of_data f (Some c) h k j = record { type = c; facts = f; held = h; is = sym j }

  -- what typing answers, if it is an expression that has a type
  pub condition_typed : (f : Facts) (o : Option (Expr (Option CodeType))) → typed_at e f e.«data» ≡ typed s no_facts t → MatchOption o (e.«data» ≡ None) (λ d. (d ≡ e) × (is_some e.«data» ≡ true))
      → MatchOption o (typed s no_facts t ≡ None) (IsTypedAs s t)
  condition_typed f None j h = sym j ∙ ap (typed_at e f) h
  condition_typed f (Some d) j h = subst (IsTypedAs s t) (sym h.0) (of_data f e.«data» refl h.1 j)

  module _ (law : TypedAsJudged) (w : IsTypedAs s t e) where
    -- it has the type that is held
    pub type_held : option_map code.type_of e.«data» ≡ type_of s t
    type_held = ap (option_map code.type_of) w.held ∙ sym (typed_type law s t (Some (record { type = code.type_of w.type; facts = w.facts; at = tree_of e; below = kind_marks e.expr_kind })) w.is)

    pub verdict_held : (v : Verdict) → IsVerdictOf (option_map code.type_of e.«data») v → IsVerdictOf (type_of s t) v
    verdict_held v h = let P : Option Ty → Type 0 = λ o. IsVerdictOf o v in subst P type_held h

    -- what is violated is counted on the types of its parts
    pub violated_at : SameTree → CountedOnMarks → (n : ℕ) → violations_at n s (tree_of e) (marks_of e) ≡ option_map_or (λ _. violations n s no_facts t) (type_of s t) []
    violated_at same counted n =
        let x : Typed = record { type = code.type_of w.type; facts = w.facts; at = tree_of e; below = kind_marks e.expr_kind } in
        let marks_are : marks_of e ≡ marked x = λ i. mark (option_map code.type_of (w.held i)) (sym (same_kinds e.expr_kind) i) in
        ap (violations_at n s (tree_of e)) marks_are
        ∙ ap (λ u. violations_at n s u (marked x)) (same s no_facts t x w.is)
        ∙ counted n s no_facts t x w.is
        ∙ ap (λ o. option_map_or (λ _. violations n s no_facts t) o []) (sym (typed_type law s t (Some x) w.is))
