-- The function `tier` answers equal arguments alike.
use Rattle.std.proofs.Common.{◌≡◌, ℕ, [], ◌∷◌, true, refl, sym, subst, Option, Some, None}
use Rattle.cedar_expr_model.proofs.Equality.{name_eq_same}
use Rattle.cedar_expr_model.proofs.ValueOrder.{values_decide}
use Rattle.cedar_expr_model.specs.Table.{Called}
use Rattle.cedar_expr_model.specs.Value.{extension}
use Rattle.cedar_expr_functions.specs.Answers.{called_eq, agree}
use Rattle.cedar_gate_session_cases.specs.Tiers.{tier_name, tier_called, GivesTier}

alike_itself : (n : Option ℕ) → called_eq (tier_called n) (tier_called n) ≡ true
alike_itself None = name_eq_same tier_name
alike_itself (Some k) = (values_decide (extension tier_name (k ∷ [])) (extension tier_name (k ∷ []))).1 refl

pub tiers_alike : (n : Option ℕ) (o p : Option Called) → GivesTier n o → GivesTier n p → agree o p ≡ true
tiers_alike n None p h k = refl
tiers_alike n (Some c) None h k = refl
tiers_alike n (Some c) (Some d) h k =
    subst (λ e. called_eq c e ≡ true) (sym k) (subst (λ e. called_eq e (tier_called n) ≡ true) (sym h) (alike_itself n))
