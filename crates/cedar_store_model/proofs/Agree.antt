-- A relation on outcomes and the function beside it, through each combinator.
use Rattle.std.proofs.Common.{◌≡◌, true, false, refl, sym, ap, ◌∙◌, subst, inl, inr}
use Rattle.std.specs.Prelude.{Option, Some, None}
use Rattle.cedar_expr_model.specs.Value.{V, prim, truth}
use Rattle.cedar_store_model.specs.Outcome.{Res, val, err, wrong_type, Then, Is, Gives, bind}
use Rattle.cedar_store_model.specs.Meaning.{Picks, picked}

-- The relation holds of an outcome exactly where the function gives it.
pub record Agree {A : Type 0} (R : Res A → Type 0) (o : Option (Res A)) : Type 0 where
  pub only : (r : Res A) → R r → o ≡ Some r
  pub gives : (r : Res A) → o ≡ Some r → R r

pub agree_is : {A : Type 0} (r : Res A) → Agree (Is r) (Some r)
agree_is r = record { only = λ o h. ap Some (sym h); gives = λ o h. cc }

pub agree_gives : {A : Type 0} (o : Option (Res A)) → Agree (Gives o) o
agree_gives o = record { only = λ r h. h; gives = λ r h. h }

-- what comes next, after a value
then_next : {A B : Type 0} (first : Res A → Type 0) (next : A → Res B → Type 0) (v : A) (r : Res B) → first (val v) → next v r → Then first next r
then_next first next v (val w) f n = (v, f, n)
then_next first next v (err e) f n = inr (v, f, n)

then_only : {A B : Type 0} (first : Res A → Type 0) (next : A → Res B → Type 0) (o : Option (Res A)) (step : A → Option (Res B)) → Agree first o → ((v : A) → Agree (next v) (step v)) → (r : Res B) → Then first next r → bind o step ≡ Some r
then_only first next o step f n (val w) h = ap (λ x. bind x step) (f.only (val h.0) h.1) ∙ (n h.0).only (val w) h.2
then_only first next o step f n (err e) (inl k) = ap (λ x. bind x step) (f.only (err e) k)
then_only first next o step f n (err e) (inr k) = ap (λ x. bind x step) (f.only (val k.0) k.1) ∙ (n k.0).only (err e) k.2

then_gives : {A B : Type 0} (first : Res A → Type 0) (next : A → Res B → Type 0) (o : Option (Res A)) (step : A → Option (Res B)) → Agree first o → ((v : A) → Agree (next v) (step v)) → (r : Res B) → bind o step ≡ Some r → Then first next r
then_gives first next None step f n r e = cc
then_gives first next (Some (val v)) step f n r e = then_next first next v r (f.gives (val v) refl) ((n v).gives r e)
then_gives first next (Some (err x)) step f n r e =
    let same : err x ≡ r = cc in
    subst (Then first next) same (inl (f.gives (err x) refl))

pub agree_then : {A B : Type 0} (first : Res A → Type 0) (next : A → Res B → Type 0) (o : Option (Res A)) (step : A → Option (Res B)) → Agree first o → ((v : A) → Agree (next v) (step v)) → Agree (Then first next) (bind o step)
agree_then first next o step f n = record { only = then_only first next o step f n; gives = then_gives first next o step f n }

pub agree_picks : (on_true on_false : Res V → Type 0) (o p : Option (Res V)) → Agree on_true o → Agree on_false p → (v : V) → Agree (Picks on_true on_false v) (picked o p v)
agree_picks on_true on_false o p f g (prim (truth true)) = f
agree_picks on_true on_false o p f g (prim (truth false)) = g
agree_picks on_true on_false o p f g v = agree_is (err wrong_type)
