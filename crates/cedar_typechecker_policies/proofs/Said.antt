-- What a check says of a typed condition, and what its levels are.
use Rattle.std.proofs.Common.{◌≡◌, ℕ, true, false, Option, Some, None, refl, sym, ap, subst, ◌∙◌, MatchOption}
use Rattle.std.specs.Prelude.{option_map}
use Rattle.cedar_expr_model.specs.Name.{Text}
use Rattle.cedar_expr_model.specs.Tree.{Tree}
use Rattle.cedar_expr_trees.specs.Trees.{tree_of}
use Rattle.cedar_expr_trees.specs.declared.expr.Expr.{Expr}
use Rattle.cedar_schema_model.specs.Types.{only_false, Ty, bool_type}
use Rattle.cedar_schema_types.specs.declared.types.Type.{«Type» as CodeType}
use Rattle.cedar_schema_types.specs.Types as code
use Rattle.cedar_typechecker_policies.specs.Conditions.{IsTypedAs, IsVerdictOf}
use Rattle.cedar_typechecker_policies.specs.declared.verdict.Verdict.{Verdict as CodeVerdict}
use Rattle.cedar_typechecker_policies.proofs.Typing.{no_type, verdict_held, violated_at}
use Rattle.cedar_typechecker_levels.specs.Marked.{marks_of}
use Rattle.cedar_typechecker_model.specs.Facts.{no_facts}
use Rattle.cedar_typechecker_model.specs.Rules.{Setting}
use Rattle.cedar_typechecker_model.specs.Typing.{type_of}
use Rattle.cedar_typechecker_model.specs.Verdicts.{success, irrelevant, fail, verdict_of, is_bool, is_false}
use Rattle.cedar_typechecker_policies.specs.Checks.{IsChecked, CheckSays, is_passing, is_irrelevant}
use Rattle.cedar_typechecker_policies.specs.Violations.{violated}
use Rattle.cedar_typechecker_policies.specs.declared.check.PolicyCheck.TheVariants.{Success, Irrelevant, Fail}
use Rattle.cedar_typechecker_policies.specs.declared.checked.Checked.{Checked}
use Rattle.cedar_typechecker_model.specs.Counts.{violations_at}
use Rattle.cedar_typechecker_model.specs.TypedLaws.{TypedAsJudged, SameTree, CountedOnMarks}
use Rattle.cedar_typechecker_model.specs.Typed.{typed}

fails : (o : Option Ty) → is_bool o ≡ false → verdict_of o ≡ fail
fails (Some (bool_type b)) h = absurd (cc)
fails o h = refl

succeeds : (o : Option Ty) → is_bool o ≡ true → is_false o ≡ false → verdict_of o ≡ success
succeeds (Some (bool_type only_false)) h k = absurd (cc)
succeeds (Some (bool_type b)) h k = refl
succeeds o h k = absurd (cc)

is_left_out : (o : Option Ty) → is_false o ≡ true → verdict_of o ≡ irrelevant
is_left_out (Some (bool_type only_false)) h = refl
is_left_out o h = absurd (cc)

false_is_bool : (o : Option Ty) → is_false o ≡ true → is_bool o ≡ true
false_is_bool (Some (bool_type only_false)) h = refl
false_is_bool o h = absurd (cc)

-- a check passes exactly where the type is one of truth values
pub passes_as_bool : (o : Option Ty) → is_passing (verdict_of o) ≡ is_bool o
passes_as_bool (Some (bool_type only_false)) = refl
passes_as_bool (Some (bool_type b)) = refl
passes_as_bool o = refl

-- and is irrelevant exactly where it is False
pub irrelevant_as_false : (o : Option Ty) → is_irrelevant (verdict_of o) ≡ is_false o
irrelevant_as_false (Some (bool_type only_false)) = refl
irrelevant_as_false (Some (bool_type b)) = refl
irrelevant_as_false o = refl

-- the verdict of an expression that may have a type
module _ (law : TypedAsJudged) (s : Setting) (t : Tree) where
  pub verdict_typed : (o : Option (Expr (Option CodeType))) (e : Expr (Option CodeType)) (v : CodeVerdict) → o ≡ Some e → MatchOption o (typed s no_facts t ≡ None) (IsTypedAs s t)
      → IsVerdictOf (option_map code.type_of e.«data») v → IsVerdictOf (type_of s t) v
  verdict_typed o e v is h says =
      let P : Option (Expr (Option CodeType)) → Type 0 = λ q. MatchOption q (typed s no_facts t ≡ None) (IsTypedAs s t) in
      verdict_held s t e law (subst P is h) v says

  pub verdict_none : (o : Option (Expr (Option CodeType))) (v : CodeVerdict) → o ≡ None → MatchOption o (typed s no_facts t ≡ None) (IsTypedAs s t)
      → IsVerdictOf None v → IsVerdictOf (type_of s t) v
  verdict_none o v is h says =
      let P : Option (Expr (Option CodeType)) → Type 0 = λ q. MatchOption q (typed s no_facts t ≡ None) (IsTypedAs s t) in
      subst (λ q. IsVerdictOf q v) (no_type law s t (subst P is h)) says

module _ (s : Setting) (t : Tree) (id : Text) (c : Checked) (h : IsChecked s t id c) where
  held : (e : Expr (Option CodeType)) → c.typed ≡ Some e → IsTypedAs s t e
  held e is = let P : Option (Expr (Option CodeType)) → Type 0 = λ q. MatchOption q (typed s no_facts t ≡ None) (IsTypedAs s t) in subst P is h.typed

  none : c.typed ≡ None → typed s no_facts t ≡ None
  none is = let P : Option (Expr (Option CodeType)) → Type 0 = λ q. MatchOption q (typed s no_facts t ≡ None) (IsTypedAs s t) in subst P is h.typed

  pub says_irrelevant : (e : Expr (Option CodeType)) → c.typed ≡ Some e → c.verdict.is_false ≡ true → CheckSays s t id (Irrelevant c.errors e)
  says_irrelevant e is k =
      let f : is_false (type_of s t) ≡ true = sym h.verdict.falses ∙ k in
      record { verdict = is_left_out (type_of s t) f; typed = held e is; policy = h.policy; errors = h.errors ∙ h.verdict.bools ∙ false_is_bool (type_of s t) f }

  pub says_success : (e : Expr (Option CodeType)) → c.typed ≡ Some e → c.verdict.is_false ≡ false → c.verdict.is_bool ≡ true → CheckSays s t id (Success e)
  says_success e is k b = record { verdict = succeeds (type_of s t) (sym h.verdict.bools ∙ b) (sym h.verdict.falses ∙ k); typed = held e is; policy = refl; errors = refl }

  pub says_fail : c.verdict.is_bool ≡ false → CheckSays s t id (Fail c.errors)
  says_fail k = record { verdict = fails (type_of s t) (sym h.verdict.bools ∙ k); typed = tt; policy = h.policy; errors = h.errors ∙ k }

  pub says_untyped : TypedAsJudged → c.typed ≡ None → CheckSays s t id (Fail c.errors)
  says_untyped law is = says_fail (h.verdict.bools ∙ ap is_bool (sym (no_type law s t (none is))))

  -- the violations of what is typed
  pub violated_here : TypedAsJudged → SameTree → CountedOnMarks → (n : ℕ) (e : Expr (Option CodeType)) → c.typed ≡ Some e → violations_at n s (tree_of e) (marks_of e) ≡ violated n s t
  violated_here law same counted n e is = violated_at s t e law (held e is) same counted n
