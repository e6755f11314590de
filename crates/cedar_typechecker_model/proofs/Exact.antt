-- A relation on types and facts, and the one judgement that it gives, through each combinator.
use Rattle.std.proofs.Common.{◌≡◌, Option, Some, None, refl, sym, ap, ◌∙◌}
use Rattle.std.specs.Prelude.{option_map, option_and_then}
use Rattle.cedar_schema_model.specs.Types.{Ty}
use Rattle.cedar_typechecker_model.specs.Facts.{Facts}
use Rattle.cedar_typechecker_model.specs.Typing.{Judgement, Gives, Sub}

abbrev pub of_parts : Ty → Facts → Judgement
of_parts t f = record { type = t; facts = f }

-- The relation holds of the type and the facts of this judgement and of no others.
pub record Exact (R : Ty → Facts → Type 0) (r : Option Judgement) : Type 0 where
  pub only : (t : Ty) (f : Facts) → R t f → r ≡ Some (of_parts t f)
  pub gives : (t : Ty) (f : Facts) → r ≡ Some (of_parts t f) → R t f

-- The relation holds of this and of nothing else.
pub record ExactAt {A : Type 0} (R : A → Type 0) (r : Option A) : Type 0 where
  pub only : (a : A) → R a → r ≡ Some a
  pub gives : (a : A) → r ≡ Some a → R a

-- equal judgements have equal parts
pub same_type : (j k : Judgement) → Some j ≡ Some k → j.type ≡ k.type
same_type j k e = let q : j ≡ k = cc in ap (λ (x : Judgement). x.type) q

pub same_facts : (j k : Judgement) → Some j ≡ Some k → j.facts ≡ k.facts
same_facts j k e = let q : j ≡ k = cc in ap (λ (x : Judgement). x.facts) q

pub judged_same : (a b : Ty) (f g : Facts) → a ≡ b → f ≡ g → Some (of_parts a f) ≡ Some (of_parts b g)
judged_same a b f g p q = λ i. Some (of_parts (p i) (q i))

pub exact_gives : (o : Option Judgement) → Exact (Gives o) o
exact_gives None = record { only = λ t f h. absurd h; gives = λ t f e. cc }
exact_gives (Some j) = record {
  only = λ t f h. judged_same j.type t j.facts f (sym h.0) (sym h.1);
  gives = λ t f e. (sym (same_type j (of_parts t f) e), sym (same_facts j (of_parts t f) e));
}

-- what follows a judgement that is there
some_only : (first : Ty → Facts → Type 0) (next : Ty → Facts → Ty → Facts → Type 0) (j : Judgement) (step : Ty → Facts → Option Judgement) → Exact first (Some j) → ((t : Ty) (f : Facts) → Exact (next t f) (step t f)) → (t : Ty) (out : Facts) → Sub first next t out → step j.type j.facts ≡ Some (of_parts t out)
some_only first next j step h n t out k =
    let e : Some j ≡ Some (of_parts k.0 k.1) = h.only k.0 k.1 k.2 in
    let d : step k.0 k.1 ≡ Some (of_parts t out) = (n k.0 k.1).only t out k.3 in
    let q : j ≡ of_parts k.0 k.1 = cc in
    ap (λ (x : Judgement). step x.type x.facts) q ∙ d

pub exact_sub : (first : Ty → Facts → Type 0) (next : Ty → Facts → Ty → Facts → Type 0) (r : Option Judgement) (step : Ty → Facts → Option Judgement) → Exact first r → ((t : Ty) (f : Facts) → Exact (next t f) (step t f)) → Exact (Sub first next) (option_and_then (λ j. step j.type j.facts) r)
exact_sub first next None step h n = record {
  only = λ t out k. (let e = h.only k.0 k.1 k.2 in cc);
  gives = λ t out e. cc;
}
exact_sub first next (Some j) step h n = record {
  only = some_only first next j step h n;
  gives = λ t out e. (j.type, j.facts, h.gives j.type j.facts refl, (n j.type j.facts).gives t out e);
}

-- a judgement that follows from something found
pub exact_found : {A : Type 0} (R : A → Type 0) (r : Option A) (step : A → Option Judgement) → ExactAt R r → Exact (λ t out. (a : A) × R a × Gives (step a) t out) (option_and_then step r)
exact_found R None step h = record {
  only = λ t out k. (let e = h.only k.0 k.1 in cc);
  gives = λ t out e. cc;
}
exact_found R (Some a) step h = record {
  only = λ t out k. (let e : Some a ≡ Some k.0 = h.only k.0 k.1 in let q : a ≡ k.0 = cc in ap step q ∙ (exact_gives (step k.0)).only t out k.2);
  gives = λ t out e. (a, h.gives a refl, (exact_gives (step a)).gives t out e);
}

pub exact_at : {A : Type 0} (a : A) → ExactAt (λ b. b ≡ a) (Some a)
exact_at a = record { only = λ b h. ap Some (sym h); gives = λ b e. cc }

-- one thing and then the rest, put together
pub exact_next : {A B : Type 0} (first : Ty → Facts → Type 0) (rest : A → Type 0) (r : Option Judgement) (o : Option A) (make : Ty → A → B) → Exact first r → ExactAt rest o →
    ExactAt (λ b. (t : Ty) × (f : Facts) × first t f × (as_ : A) × rest as_ × (b ≡ make t as_)) (option_and_then (λ j. option_map (make j.type) o) r)
exact_next first rest None o make h k = record {
  only = λ b n. (let e = h.only n.0 n.1 n.2 in cc);
  gives = λ b e. cc;
}
exact_next first rest (Some j) None make h k = record {
  only = λ b n. (let e = k.only n.3 n.4 in cc);
  gives = λ b e. cc;
}
exact_next first rest (Some j) (Some a) make h k = record {
  only = λ b n. (
      let e : Some j ≡ Some (of_parts n.0 n.1) = h.only n.0 n.1 n.2 in
      let d : Some a ≡ Some n.3 = k.only n.3 n.4 in
      let p : j.type ≡ n.0 = same_type j (of_parts n.0 n.1) e in
      let q : a ≡ n.3 = cc in
      let s : b ≡ make n.0 n.3 = n.5 in
      cc);
  gives = λ b e. (j.type, j.facts, h.gives j.type j.facts refl, a, k.gives a refl, (let q : make j.type a ≡ b = cc in sym q));
}
