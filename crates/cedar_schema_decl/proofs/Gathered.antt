-- What comes of a list, one after the other: what was made so far, and then what comes of the rest, is what comes of all.
use Rattle.std.proofs.Common.{◌≡◌, length, List, [], ◌∷◌, ◌++◌, append_assoc, Result, Ok, Err, IfOk, IfErr, refl, sym, ap, ◌∙◌, subst}
use Rattle.std.proofs.lemmas.List.{append-nil}
use Rattle.std.proofs.lemmas.Bool.{false≢true}
use Rattle.std.specs.Result.{IsErr, IsErrAnd}
use Rattle.cedar_schema_decl.specs.Requalified.{and_then, each}

-- what was made, and then what comes of the rest
abbrev pub after : {B R : Type 0} → List B → Result (List B) R → Result (List B) R
after done o = and_then (λ ys. Ok (done ++ ys)) o

pub nothing : {A : Type 0} (xs : List A) → length xs ≡ 0 → xs ≡ []
nothing [] e = refl
nothing (x ∷ xs) e = absurd (cc)

-- What comes of all is what was made, and then what comes of the rest.
pub record Gathers {A B R : Type 0} (f : A → Result B R) (all : List A) (done : List B) (rest : List A) : Type 0 where
  pub is : each f all ≡ after done (each f rest)

-- a refusal that is handed on
pub handed : {X E : Type 0} (P : E → Type 0) (e : E) (r : Result X E) → IsErrAnd r (λ y. y ≡ e) → P e → IfErr r P
handed P e (Ok x) same p = tt
handed P e (Err y) same p = subst P (sym same) p

-- nothing is made of what is refused
pub unmade : {X E : Type 0} (r : Result X E) (P : X → Type 0) → IsErr r → IfOk r P
unmade (Ok x) P h = absurd (false≢true h)
unmade (Err y) P h = tt

pub starts : {B R : Type 0} (o : Result (List B) R) → o ≡ after [] o
starts (Ok ys) = refl
starts (Err r) = refl

module _ {A B R : Type 0} where
  module _ (f : A → Result B R) (whole : Result (List B) R) (rest later : List A) (done : List B) (x : A) where
    pub goes_on : (y : B) (more : List B) → whole ≡ after done (each f rest) → rest ≡ x ∷ later → f x ≡ Ok y → more ≡ done ++ y ∷ [] → whole ≡ after more (each f later)
    goes_on y more h e made n = h ∙ ap (λ r. after done (each f r)) e ∙ ap (λ o. after done (and_then (λ z. and_then (λ ys. Ok (z ∷ ys)) (each f later)) o)) made ∙ go (each f later) ∙ ap (λ d. after d (each f later)) (sym n)
      where
        go : (p : Result (List B) R) → after done (and_then (λ ys. Ok (y ∷ ys)) p) ≡ after (done ++ y ∷ []) p
        go (Ok ys) = ap Ok (sym (append_assoc done (y ∷ []) ys))
        go (Err r) = refl

    pub goes_wrong : (r : R) → whole ≡ after done (each f rest) → rest ≡ x ∷ later → f x ≡ Err r → whole ≡ Err r
    goes_wrong r h e wrong = h ∙ ap (λ q. after done (each f q)) e ∙ ap (λ o. after done (and_then (λ z. and_then (λ ys. Ok (z ∷ ys)) (each f later)) o)) wrong

  pub ends : (f : A → Result B R) (whole : Result (List B) R) (rest : List A) (done : List B) → whole ≡ after done (each f rest) → rest ≡ [] → whole ≡ Ok done
  ends f whole rest done h e = h ∙ ap (λ q. after done (each f q)) e ∙ ap Ok (append-nil done)

module _ {A B R : Type 0} (f : A → Result B R) where
  pub gathers_none : (all rest : List A) (done : List B) → all ≡ rest → done ≡ [] → Gathers f all done rest
  gathers_none all rest done e n = record { is = starts (each f all) ∙ (λ i. after (sym n i) (each f (e i))) }

  pub gathers_one : (all rest later : List A) (done more : List B) (x : A) (y : B) → Gathers f all done rest → rest ≡ x ∷ later → f x ≡ Ok y → more ≡ done ++ y ∷ [] → Gathers f all more later
  gathers_one all rest later done more x y g e made n = record { is = goes_on f (each f all) rest later done x y more g.is e made n }

  pub gathers_all : (all rest : List A) (done : List B) → Gathers f all done rest → rest ≡ [] → each f all ≡ Ok done
  gathers_all all rest done g e = ends f (each f all) rest done g.is e

  pub gathers_not : (all rest later : List A) (done : List B) (x : A) (r : R) → Gathers f all done rest → rest ≡ x ∷ later → f x ≡ Err r → each f all ≡ Err r
  gathers_not all rest later done x r g e wrong = goes_wrong f (each f all) rest later done x r g.is e wrong
