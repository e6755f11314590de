-- What is made of parts of any outcome, and what is gathered of rows so.
use Rattle.std.proofs.Common.{◌≡◌, List, [], ◌∷◌, ◌++◌, Result, Ok, Err, refl, sym, ap, ◌∙◌}
use Rattle.std.specs.Result.{IsErrAnd}
use Rattle.cedar_expr_builders.specs.Refusing.{and_then}
use Rattle.cedar_expr_builders.specs.declared.err.BuildFault.{BuildFault}
use Rattle.cedar_expr_builders.specs.declared.err.BuildFault.TheVariants.{OutOfMemory, Refused}
use Rattle.cedar_expr_substitution.specs.Outcome.{Refuses, told}
use Rattle.cedar_expr_substitution.specs.Steps.{Means, Tells, two_made, three_made}
use Rattle.cedar_expr_substitution.proofs.Gathered.{after, one_and, goes_on, goes_wrong}

module _ {M N R : Type 0} (step : M → Result N R) where
  -- a fault of the parts is handed on
  pub handed_on : {E : Type 0} (says : E → R) (o : Result M R) (f : BuildFault E) → Refuses says o f → Refuses says (and_then step o) f
  handed_on says o f h r k = ap (and_then step) (h r k)

-- out of memory tells nothing
pub tells_nothing : {E M R : Type 0} (says : E → R) (o : Result M R) (f : BuildFault E) → f ≡ OutOfMemory → Refuses says o f
tells_nothing says o OutOfMemory e r k = absurd (cc)
tells_nothing says o (Refused x) e r k = absurd (cc)

-- of two, and of three
module _ {M N R : Type 0} where
  pub by_two : (g : M → M → N) (l r : Result M R) → and_then (λ p. Ok (g p.0 p.1)) (two_made l r) ≡ and_then (λ x. and_then (λ y. Ok (g x y)) r) l
  by_two g (Ok x) (Ok y) = refl
  by_two g (Ok x) (Err r) = refl
  by_two g (Err r) p = refl

  pub by_three : (g : M → M → M → N) (l r s : Result M R) → and_then (λ p. Ok (g p.0 p.1 p.2)) (three_made l r s) ≡ and_then (λ x. and_then (λ y. and_then (λ z. Ok (g x y z)) s) r) l
  by_three g (Ok x) (Ok y) (Ok z) = refl
  by_three g (Ok x) (Ok y) (Err r) = refl
  by_three g (Ok x) (Err r) s = refl
  by_three g (Err r) p s = refl

-- one more of a row
module _ {M R A : Type 0} (k : A → M) (whole rest next : Result (List M) R) (o : Result A R) (done : List M) where
  pub row_goes_on : (more : List M) → whole ≡ after done rest → rest ≡ one_and k o next → and_then (λ a. Ok (done ++ k a ∷ [])) o ≡ Ok more → whole ≡ after more next
  row_goes_on more h e n = go o refl n
    where
      go : (p : Result A R) → o ≡ p → and_then (λ a. Ok (done ++ k a ∷ [])) p ≡ Ok more → whole ≡ after more next
      go (Ok a) is n = let same : done ++ k a ∷ [] ≡ more = cc in goes_on k whole rest next o done a more h e is (sym same)
      go (Err r) is n = absurd (cc)

  pub row_goes_wrong : (r : R) → whole ≡ after done rest → rest ≡ one_and k o next → and_then (λ a. Ok (done ++ k a ∷ [])) o ≡ Err r → whole ≡ Err r
  row_goes_wrong r h e n = go o refl n
    where
      go : (p : Result A R) → o ≡ p → and_then (λ a. Ok (done ++ k a ∷ [])) p ≡ Err r → whole ≡ Err r
      go (Ok a) is n = absurd (cc)
      go (Err s) is n = let same : s ≡ r = cc in goes_wrong k whole rest next o done r h e (is ∙ ap Err same)

-- what was made is another outcome that is the same
pub made_is : {A F M R : Type 0} (means : A → M) (o p : Result M R) (q : Result A F) → o ≡ p → Means means o q → Means means p q
made_is means o p (Ok x) e h = sym e ∙ h
made_is means o p (Err f) e h = tt

pub told_is : {A E M R : Type 0} (says : E → R) (o p : Result M R) (q : Result A (BuildFault E)) → o ≡ p → Tells says o q → Tells says p q
told_is says o p (Ok x) e h = tt
told_is says o p (Err f) e h = λ r t. sym e ∙ h r t

-- a refusal that is handed on
pub passes : {A E M N R : Type 0} (says : E → R) (o : Result M R) (p : Result N R) (q : Result A (BuildFault E)) (f : BuildFault E) → IsErrAnd q (λ y. y ≡ f) → Refuses says o f → ((r : R) → o ≡ Err r → p ≡ Err r) → Tells says p q
passes says o p (Ok x) f e h k = tt
passes says o p (Err y) f e h k = λ r t. k r (h r (ap (told says) (sym e) ∙ t))

-- the first of two, or two of three
module _ {M R : Type 0} where
  pub two_on : (l r : Result M R) (x : M) → l ≡ Ok x → and_then (λ y. Ok (x, y)) r ≡ two_made l r
  two_on l r x e = ap (λ o. two_made o r) (sym e)

  pub two_wrong : {E : Type 0} (says : E → R) (l r : Result M R) (f : BuildFault E) → Refuses says l f → Refuses says (two_made l r) f
  two_wrong says l r f h s t = ap (λ o. two_made o r) (h s t)

  pub three_on : (l m r : Result M R) (x : M × M) → two_made l m ≡ Ok x → and_then (λ z. Ok (x.0, x.1, z)) r ≡ three_made l m r
  three_on l m r x e = ap (and_then (λ (t : M × M). and_then (λ z. Ok (t.0, t.1, z)) r)) (sym e)

  pub three_wrong : {E : Type 0} (says : E → R) (l m r : Result M R) (f : BuildFault E) → Refuses says (two_made l m) f → Refuses says (three_made l m r) f
  three_wrong says l m r f h s t = ap (and_then (λ (u : M × M). and_then (λ z. Ok (u.0, u.1, z)) r)) (h s t)
