-- Errors of a policy, put behind others.
use Rattle.std.proofs.Common.{◌≡◌, ◌&&◌, true, false, List, [], ◌∷◌, ◌++◌, refl, sym, ap, ◌∙◌}
use Rattle.std.specs.List.{list_all}
use Rattle.std.proofs.lemmas.List.Folds.{list_all-append}
use Rattle.std.proofs.lemmas.Slice.Eq.{bytes_eq-Decides}
use Rattle.cedar_expr_model.specs.Lists.{is_nil}
use Rattle.cedar_expr_model.specs.Name.{Text}
use Rattle.cedar_store_parts.specs.Parts.{id_text}
use Rattle.cedar_store_parts.specs.declared.diagnostics.ValidationError.{ValidationError}
use Rattle.cedar_typechecker_answers.specs.Kinds.{is_typing_kind}
use Rattle.cedar_typechecker_policies.specs.Checks.{is_error_of}

-- one more error of the policy
pub one_more : (id : Text) (xs ys : List ValidationError) (e : ValidationError) → ys ≡ xs ++ e ∷ [] → id_text e.policy_id ≡ id → is_typing_kind e.kind ≡ true → list_all (is_error_of id) xs ≡ true → list_all (is_error_of id) ys ≡ true
one_more id xs ys e put same kind all =
    ap (list_all (is_error_of id)) put
    ∙ list_all-append (is_error_of id) xs (e ∷ [])
    ∙ (λ i. all i && (((bytes_eq-Decides id (id_text e.policy_id)).1 (sym same) i && kind i) && true))

pub some_there : (xs ys : List ValidationError) (e : ValidationError) → ys ≡ xs ++ e ∷ [] → is_nil ys ≡ false
some_there [] ys e put = ap is_nil put
some_there (x ∷ xs) ys e put = ap is_nil put

-- nothing of two lists together
pub nil_together : {X : Type 0} (xs ys : List X) → is_nil (xs ++ ys) ≡ (is_nil xs && is_nil ys)
nil_together [] ys = refl
nil_together (x ∷ xs) ys = refl
