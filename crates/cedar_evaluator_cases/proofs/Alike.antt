-- Stored functions that always fail as one of the same extension answer alike.
use Rattle.std.proofs.Common.{◌≡◌, refl, true, Option, Some, None, option_map, subst}
use Rattle.std.specs.Option.{IfSome}
use Rattle.std.proofs.lemmas.Option.{none-some, same_Some}
use Rattle.cedar_expr_model.specs.Name.{Name}
use Rattle.cedar_expr_model.specs.Table.{Called, fails}
use Rattle.cedar_expr_model.proofs.Equality.{name_eq_same}
use Rattle.cedar_expr_functions.specs.Answers.{called_eq, agree}

-- where there is an answer, it is the failure of the extension of this name
abbrev pub FailsBy : Option Name → Option Called → Type 0
FailsBy n o = IfSome o (λ c. option_map fails n ≡ Some c)

pub fails_alike : (n : Option Name) (o p : Option Called) → FailsBy n o → FailsBy n p → agree o p ≡ true
fails_alike n None p h k = refl
fails_alike n (Some c) None h k = refl
fails_alike None (Some c) (Some d) h k = absurd (none-some c h)
fails_alike (Some n) (Some c) (Some d) h k =
    subst (λ e. called_eq e d ≡ true) (same_Some _ _ h) (subst (λ e. called_eq (fails n) e ≡ true) (same_Some _ _ k) (name_eq_same n))
