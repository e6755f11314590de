-- What is made of a row, one after the other: what is made so far, and then what is made of the rest, is what is made of all.
use Rattle.std.proofs.Common.{◌≡◌, List, [], ◌∷◌, ◌++◌, append_assoc, Result, Ok, Err, IfOk, refl, sym, ap, ◌∙◌}
use Rattle.std.proofs.lemmas.List.{append-nil}
use Rattle.cedar_expr_builders.specs.Refusing.{and_then}

module _ {M R : Type 0} where
  -- what is made of one, and then of those behind it
  abbrev pub one_and : {A : Type 0} → (A → M) → Result A R → Result (List M) R → Result (List M) R
  one_and k o next = and_then (λ y. and_then (λ ys. Ok (k y ∷ ys)) next) o

  -- what was made, and then what is made of the rest
  abbrev pub after : List M → Result (List M) R → Result (List M) R
  after done o = and_then (λ ys. Ok (done ++ ys)) o

  pub starts : (o : Result (List M) R) → o ≡ after [] o
  starts (Ok ys) = refl
  starts (Err r) = refl

  module _ {A : Type 0} (k : A → M) (whole rest next : Result (List M) R) (o : Result A R) (done : List M) where
    pub goes_on : (a : A) (more : List M) → whole ≡ after done rest → rest ≡ one_and k o next → o ≡ Ok a → more ≡ done ++ k a ∷ [] → whole ≡ after more next
    goes_on a more h e made n = h ∙ ap (after done) (e ∙ ap (λ p. one_and k p next) made) ∙ go next ∙ ap (λ d. after d next) (sym n)
      where
        go : (p : Result (List M) R) → after done (one_and k (Ok a) p) ≡ after (done ++ k a ∷ []) p
        go (Ok ys) = ap Ok (sym (append_assoc done (k a ∷ []) ys))
        go (Err r) = refl

    pub goes_wrong : (r : R) → whole ≡ after done rest → rest ≡ one_and k o next → o ≡ Err r → whole ≡ Err r
    goes_wrong r h e wrong = h ∙ ap (after done) (e ∙ ap (λ p. one_and k p next) wrong)

  pub ends : (whole rest : Result (List M) R) (done : List M) → whole ≡ after done rest → rest ≡ Ok [] → whole ≡ Ok done
  ends whole rest done h e = h ∙ ap (after done) e ∙ ap Ok (append-nil done)

-- what was made means another thing that is the same
pub means_other : {B E M : Type 0} (q : Result B E) (means : B → M) (m n : M) → m ≡ n → IfOk q (λ b. means b ≡ m) → IfOk q (λ b. means b ≡ n)
means_other (Ok b) means m n e h = h ∙ e
means_other (Err x) means m n e h = tt
