-- Conjunctions, disjunctions and choices of good outcomes are good.
use Rattle.std.proofs.Common.{◌≡◌, Bool, true, false, Option, Some, None, refl, sym, ap, ◌∙◌, subst}
use Rattle.std.specs.Prelude.{option_map}
use Rattle.cedar_expr_model.specs.Value.{V, truth_value}
use Rattle.cedar_store_model.specs.Outcome.{Res, val, err, bind}
use Rattle.cedar_store_model.specs.World.{World}
use Rattle.cedar_store_model.specs.Operators.{says}
use Rattle.cedar_store_model.specs.Meaning.{picked, truth_asked}
use Rattle.cedar_schema_model.specs.Types.{BoolType, any_bool, only_true, only_false, Ty, never, bool_type, long_type, string_type, any_entity, entity_types, any_set, set_type, record_type, extension_type, strict}
use Rattle.cedar_schema_model.specs.HasType.{is_of_bool, HasType}
use Rattle.cedar_schema_model.specs.Join.{join}
use Rattle.cedar_typechecker_model.specs.Facts.{Facts, no_facts, union, intersection}
use Rattle.cedar_typechecker_model.specs.Rules.{Setting}
use Rattle.cedar_typechecker_model.specs.Typing.{conjoined, disjoined, Gives, AndTyped, OrTyped, ChoiceTyped}
use Rattle.cedar_typechecker_model.specs.Soundness.{Hold}
use Rattle.cedar_typechecker_model.specs.OfLaws.Simple.{is_simple}
use Rattle.cedar_typechecker_model.proofs.Sound.Shapes.{bool_value}
use Rattle.cedar_typechecker_model.proofs.Sound.Joins.{join_keeps}
use Rattle.cedar_typechecker_model.proofs.Sound.Facts.{hold_none, hold_union, hold_first, hold_second, Good, good_as, good_bind, good_asked}

-- an outcome that is as good for a greater type, and with other facts that hold
pub good_more : (w : World) (t u : Ty) (f g : Facts) (o : Option (Res V)) → ((v : V) → HasType v t → HasType v u) → (o ≡ Some (val (truth_value true)) → Hold w f → Hold w g) → Good w t f o → Good w u g o
good_more w t u f g None k n h = record { fine = tt; holds = λ e. cc }
good_more w t u f g (Some (err x)) k n h = record { fine = h.fine; holds = λ e. cc }
good_more w t u f g (Some (val v)) k n h = record { fine = k v h.fine; holds = λ e. n e (h.holds e) }

pub in_any : (b : BoolType) (v : V) → HasType v (bool_type b) → HasType v (bool_type any_bool)
in_any b v h = let k = bool_value b v h in subst (λ z. HasType z (bool_type any_bool)) (sym k.1) refl

-- false where a conjunction may be false
pub false_good : (w : World) (b : BoolType) (out : Facts) → is_of_bool b false ≡ true → Good w (bool_type b) out (Some (says false))
false_good w b out h = record { fine = h; holds = λ e. cc }

-- what is good wherever the type is of truth values
abbrev pub GoodTruth : World → Ty → Facts → Option (Res V) → Type 0
GoodTruth w u g o = (b : BoolType) → u ≡ bool_type b → Good w (bool_type b) g o

pub asked_truth : (w : World) (u : Ty) (g : Facts) (o : Option (Res V)) → Good w u g o → GoodTruth w u g (bind o (λ v. Some (truth_asked v)))
asked_truth w u g o h b e = good_asked w b g o (subst (λ x. Good w x g o) e h)

pub plain_truth : (w : World) (u : Ty) (g : Facts) (o : Option (Res V)) → Good w u g o → GoodTruth w u g o
plain_truth w u g o h b e = subst (λ x. Good w x g o) e h

-- a conjunction whose left side is true, and isn't of type False
conjoined_good : (w : World) (b : BoolType) (f : Facts) (u : Ty) (g : Facts) (o : Option (Res V)) → (b ≡ only_false → ⊥) → Hold w f → GoodTruth w u g o → (ty : Ty) (out : Facts) → Gives (conjoined b f u g) ty out → Good w ty out o
conjoined_good w b f (bool_type only_false) g o n h k ty out d = good_as w (bool_type only_false) ty no_facts out o d.0 d.1 (good_more w _ _ g no_facts o (λ v i. i) (λ e i. hold_none w) (k only_false refl))
conjoined_good w only_true f (bool_type only_true) g o n h k ty out d = good_as w (bool_type only_true) ty (union f g) out o d.0 d.1 (good_more w _ _ g (union f g) o (λ v i. i) (λ e i. hold_union w f g h i) (k only_true refl))
conjoined_good w any_bool f (bool_type only_true) g o n h k ty out d = good_as w (bool_type any_bool) ty (union f g) out o d.0 d.1 (good_more w _ _ g (union f g) o (in_any only_true) (λ e i. hold_union w f g h i) (k only_true refl))
conjoined_good w only_true f (bool_type any_bool) g o n h k ty out d = good_as w (bool_type any_bool) ty (union f g) out o d.0 d.1 (good_more w _ _ g (union f g) o (λ v i. i) (λ e i. hold_union w f g h i) (k any_bool refl))
conjoined_good w any_bool f (bool_type any_bool) g o n h k ty out d = good_as w (bool_type any_bool) ty (union f g) out o d.0 d.1 (good_more w _ _ g (union f g) o (λ v i. i) (λ e i. hold_union w f g h i) (k any_bool refl))
conjoined_good w only_false f (bool_type only_true) g o n h k ty out d = absurd (n refl)
conjoined_good w only_false f (bool_type any_bool) g o n h k ty out d = absurd (n refl)
conjoined_good w b f u g o n h k ty out d = absurd d

-- one whose left side is false, and of type Bool
pub conjoined_false : (w : World) (f : Facts) (u : Ty) (g : Facts) (ty : Ty) (out : Facts) → Gives (conjoined any_bool f u g) ty out → Good w ty out (Some (says false))
conjoined_false w f (bool_type only_false) g ty out d = good_as w (bool_type only_false) ty out out _ d.0 refl (false_good w only_false out refl)
conjoined_false w f (bool_type only_true) g ty out d = good_as w (bool_type any_bool) ty out out _ d.0 refl (false_good w any_bool out refl)
conjoined_false w f (bool_type any_bool) g ty out d = good_as w (bool_type any_bool) ty out out _ d.0 refl (false_good w any_bool out refl)
conjoined_false w f u g ty out d = absurd d

module _ (w : World) (right : Facts → Ty → Facts → Type 0) (f : Facts) (oa ob : Option (Res V)) where
  and_at : (b : BoolType) (c : Bool) → is_of_bool b c ≡ true → (c ≡ true → Hold w f) → (c ≡ true → (u : Ty) (g : Facts) → right f u g → GoodTruth w u g ob) → (ty : Ty) (out : Facts) → AndTyped right (bool_type b) f ty out
      → Good w ty out (picked ob (Some (says false)) (truth_value c))
  and_at only_false true h k n ty out d = cc
  and_at only_false false h k n ty out d = good_as w (bool_type only_false) ty out out _ d.0 refl (false_good w only_false out refl)
  and_at only_true true h k n ty out d = conjoined_good w only_true f d.0 d.1 ob (λ e. cc) (k refl) (n refl d.0 d.1 d.2) ty out d.3
  and_at only_true false h k n ty out d = cc
  and_at any_bool true h k n ty out d = conjoined_good w any_bool f d.0 d.1 ob (λ e. cc) (k refl) (n refl d.0 d.1 d.2) ty out d.3
  and_at any_bool false h k n ty out d = conjoined_false w f d.0 d.1 ty out d.3

  and_bool : (b : BoolType) → Good w (bool_type b) f oa → (oa ≡ Some (val (truth_value true)) → (u : Ty) (g : Facts) → right f u g → GoodTruth w u g ob) → (ty : Ty) (out : Facts) → AndTyped right (bool_type b) f ty out
      → Good w ty out (bind oa (picked ob (Some (says false))))
  and_bool b h n ty out d =
      good_bind w (bool_type b) oa (picked ob (Some (says false))) ty out h.fine
      (λ v e i. let k = bool_value b v i in
      let q : oa ≡ Some (val (truth_value k.0)) = e ∙ ap (λ x. Some (val x)) k.1 in
      subst (λ z. Good w ty out (picked ob (Some (says false)) z)) (sym k.1)
      (and_at b k.0 k.2 (λ t. h.holds (q ∙ ap (λ x. Some (val (truth_value x))) t)) (λ t. n (q ∙ ap (λ x. Some (val (truth_value x))) t)) ty out d))

  pub and_good : (t : Ty) → Good w t f oa → (oa ≡ Some (val (truth_value true)) → (u : Ty) (g : Facts) → right f u g → GoodTruth w u g ob) → (ty : Ty) (out : Facts) → AndTyped right t f ty out
      → Good w ty out (bind oa (picked ob (Some (says false))))
  and_good (bool_type b) h n ty out d = and_bool b h n ty out d
  and_good never h n ty out d = absurd d
  and_good long_type h n ty out d = absurd d
  and_good string_type h n ty out d = absurd d
  and_good any_entity h n ty out d = absurd d
  and_good (entity_types ns) h n ty out d = absurd d
  and_good any_set h n ty out d = absurd d
  and_good (set_type t) h n ty out d = absurd d
  and_good (record_type as_ o) h n ty out d = absurd d
  and_good (extension_type m) h n ty out d = absurd d

-- a disjunction whose left side is true: the right one has no facts where it is of type True
disjoined_true : (w : World) (b : BoolType) (f : Facts) (u : Ty) (g : Facts) → is_of_bool b true ≡ true → Hold w f → (u ≡ bool_type only_true → g ≡ no_facts) → (ty : Ty) (out : Facts) → Gives (disjoined b f u g) ty out → Good w ty out (Some (says true))
disjoined_true w b f (bool_type only_true) g h k n ty out d = good_as w (bool_type only_true) ty no_facts out _ d.0 (d.1 ∙ n refl) (record { fine = refl; holds = λ e. hold_none w })
disjoined_true w only_false f (bool_type only_false) g h k n ty out d = cc
disjoined_true w only_false f (bool_type any_bool) g h k n ty out d = cc
disjoined_true w any_bool f (bool_type only_false) g h k n ty out d = good_as w (bool_type any_bool) ty f out _ d.0 d.1 (record { fine = refl; holds = λ e. k })
disjoined_true w only_true f (bool_type only_false) g h k n ty out d = good_as w (bool_type only_true) ty f out _ d.0 d.1 (record { fine = refl; holds = λ e. k })
disjoined_true w any_bool f (bool_type any_bool) g h k n ty out d = good_as w (bool_type any_bool) ty (intersection f g) out _ d.0 d.1 (record { fine = refl; holds = λ e. hold_first w f g k })
disjoined_true w only_true f (bool_type any_bool) g h k n ty out d = good_as w (bool_type any_bool) ty (intersection f g) out _ d.0 d.1 (record { fine = refl; holds = λ e. hold_first w f g k })
disjoined_true w b f u g h k n ty out d = absurd d

-- a value of type False is no truth
good_false : (w : World) (f g : Facts) (o : Option (Res V)) → Good w (bool_type only_false) g o → Good w (bool_type any_bool) f o
good_false w f g None h = record { fine = tt; holds = λ e. cc }
good_false w f g (Some (err x)) h = record { fine = h.fine; holds = λ e. cc }
good_false w f g (Some (val v)) h = record { fine = in_any only_false v h.fine; holds = λ e. (let k = bool_value only_false v h.fine in absurd (lies k.0 k.2 (e ∙ refl) k.1)) }
  where
    lies : (c : Bool) → is_of_bool only_false c ≡ true → Some (val v) ≡ Some (val (truth_value true)) → v ≡ truth_value c → ⊥
    lies true i e k = cc
    lies false i e k = cc

-- a disjunction whose left side is false, and isn't of type True
disjoined_false : (w : World) (b : BoolType) (f : Facts) (u : Ty) (g : Facts) (o : Option (Res V)) → (b ≡ only_true → ⊥) → GoodTruth w u g o → (ty : Ty) (out : Facts) → Gives (disjoined b f u g) ty out → Good w ty out o
disjoined_false w b f (bool_type only_true) g o n k ty out d = good_as w (bool_type only_true) ty g out o d.0 d.1 (k only_true refl)
disjoined_false w only_false f (bool_type only_false) g o n k ty out d = good_as w (bool_type only_false) ty g out o d.0 d.1 (k only_false refl)
disjoined_false w only_false f (bool_type any_bool) g o n k ty out d = good_as w (bool_type any_bool) ty g out o d.0 d.1 (k any_bool refl)
disjoined_false w any_bool f (bool_type only_false) g o n k ty out d = good_as w (bool_type any_bool) ty f out o d.0 d.1 (good_false w f g o (k only_false refl))
disjoined_false w any_bool f (bool_type any_bool) g o n k ty out d = good_as w (bool_type any_bool) ty (intersection f g) out o d.0 d.1 (good_more w _ _ g (intersection f g) o (λ v i. i) (λ e i. hold_second w f g i) (k any_bool refl))
disjoined_false w only_true f (bool_type only_false) g o n k ty out d = absurd (n refl)
disjoined_false w only_true f (bool_type any_bool) g o n k ty out d = absurd (n refl)
disjoined_false w b f u g o n k ty out d = absurd d

module _ (w : World) (right : Ty → Facts → Type 0) (bare : (u : Ty) (g : Facts) → right u g → u ≡ bool_type only_true → g ≡ no_facts) (f : Facts) (oa ob : Option (Res V)) where
  or_at : (b : BoolType) (c : Bool) → is_of_bool b c ≡ true → (c ≡ true → Hold w f) → (c ≡ false → (u : Ty) (g : Facts) → right u g → GoodTruth w u g ob) → (ty : Ty) (out : Facts) → OrTyped right (bool_type b) f ty out
      → Good w ty out (picked (Some (says true)) ob (truth_value c))
  or_at only_true true h k n ty out d = good_as w (bool_type only_true) ty f out _ d.0 d.1 (record { fine = refl; holds = λ e. k refl })
  or_at only_true false h k n ty out d = cc
  or_at only_false true h k n ty out d = cc
  or_at only_false false h k n ty out d = disjoined_false w only_false f d.0 d.1 ob (λ e. cc) (n refl d.0 d.1 d.2) ty out d.3
  or_at any_bool true h k n ty out d = disjoined_true w any_bool f d.0 d.1 refl (k refl) (bare d.0 d.1 d.2) ty out d.3
  or_at any_bool false h k n ty out d = disjoined_false w any_bool f d.0 d.1 ob (λ e. cc) (n refl d.0 d.1 d.2) ty out d.3

  or_bool : (b : BoolType) → Good w (bool_type b) f oa → (oa ≡ Some (val (truth_value false)) → (u : Ty) (g : Facts) → right u g → GoodTruth w u g ob) → (ty : Ty) (out : Facts) → OrTyped right (bool_type b) f ty out
      → Good w ty out (bind oa (picked (Some (says true)) ob))
  or_bool b h n ty out d =
      good_bind w (bool_type b) oa (picked (Some (says true)) ob) ty out h.fine
      (λ v e i. let k = bool_value b v i in
      let q : oa ≡ Some (val (truth_value k.0)) = e ∙ ap (λ x. Some (val x)) k.1 in
      subst (λ z. Good w ty out (picked (Some (says true)) ob z)) (sym k.1)
      (or_at b k.0 k.2 (λ t. h.holds (q ∙ ap (λ x. Some (val (truth_value x))) t)) (λ t. n (q ∙ ap (λ x. Some (val (truth_value x))) t)) ty out d))

  pub or_good : (t : Ty) → Good w t f oa → (oa ≡ Some (val (truth_value false)) → (u : Ty) (g : Facts) → right u g → GoodTruth w u g ob) → (ty : Ty) (out : Facts) → OrTyped right t f ty out
      → Good w ty out (bind oa (picked (Some (says true)) ob))
  or_good (bool_type b) h n ty out d = or_bool b h n ty out d
  or_good never h n ty out d = absurd d
  or_good long_type h n ty out d = absurd d
  or_good string_type h n ty out d = absurd d
  or_good any_entity h n ty out d = absurd d
  or_good (entity_types ns) h n ty out d = absurd d
  or_good any_set h n ty out d = absurd d
  or_good (set_type t) h n ty out d = absurd d
  or_good (record_type as_ o) h n ty out d = absurd d
  or_good (extension_type m) h n ty out d = absurd d

-- a choice: the join of the branches has what either gives
chosen_good : (w : World) (u v : Ty) (f g : Facts) (j : Option Ty) (o : Option (Res V)) → ((k : Ty) → j ≡ Some k → Good w k (intersection f g) o) → (ty : Ty) (out : Facts) → Gives (option_map (λ (k : Ty). record { type = k; facts = intersection f g }) j) ty out → Good w ty out o
chosen_good w u v f g None o n ty out d = absurd d
chosen_good w u v f g (Some k) o n ty out d = good_as w k ty (intersection f g) out o d.0 d.1 (n k refl)

module _ (w : World) (s : Setting) (m : s.mode ≡ strict) (first : Facts → Ty → Facts → Type 0) (second : Ty → Facts → Type 0)
    (simple_first : (f : Facts) (u : Ty) (g : Facts) → first f u g → is_simple u ≡ true) (simple_second : (u : Ty) (g : Facts) → second u g → is_simple u ≡ true)
    (f : Facts) (ot oa ob : Option (Res V)) where
  choice_at : (b : BoolType) (c : Bool) → is_of_bool b c ≡ true → (c ≡ true → Hold w f) → (c ≡ true → (u : Ty) (g : Facts) → first f u g → Good w u g oa) → (c ≡ false → (u : Ty) (g : Facts) → second u g → Good w u g ob)
      → (ty : Ty) (out : Facts) → ChoiceTyped s first second (bool_type b) f ty out → Good w ty out (picked oa ob (truth_value c))
  choice_at only_true true h k n o ty out d = good_as w d.0 ty (union f d.1) out oa d.3.0 d.3.1 (good_more w d.0 d.0 d.1 (union f d.1) oa (λ v i. i) (λ e i. hold_union w f d.1 (k refl) i) (n refl d.0 d.1 d.2))
  choice_at only_true false h k n o ty out d = cc
  choice_at only_false true h k n o ty out d = cc
  choice_at only_false false h k n o ty out d = o refl ty out d
  choice_at any_bool true h k n o ty out d =
      let r = d.3 in
      chosen_good w d.0 r.0 (union f d.1) r.1 (join strict d.0 r.0) oa
      (λ j e. good_more w d.0 j d.1 (intersection (union f d.1) r.1) oa (join_keeps d.0 r.0 j (simple_first f d.0 d.1 d.2) (simple_second r.0 r.1 r.2) e).first
      (λ p i. hold_first w (union f d.1) r.1 (hold_union w f d.1 (k refl) i)) (n refl d.0 d.1 d.2))
      ty out (subst (λ y. Gives (option_map (λ (j : Ty). record { type = j; facts = intersection (union f d.1) r.1 }) (join y d.0 r.0)) ty out) m r.3)
  choice_at any_bool false h k n o ty out d =
      let r = d.3 in
      chosen_good w d.0 r.0 (union f d.1) r.1 (join strict d.0 r.0) ob
      (λ j e. good_more w r.0 j r.1 (intersection (union f d.1) r.1) ob (join_keeps d.0 r.0 j (simple_first f d.0 d.1 d.2) (simple_second r.0 r.1 r.2) e).second
      (λ p i. hold_second w (union f d.1) r.1 i) (o refl r.0 r.1 r.2))
      ty out (subst (λ y. Gives (option_map (λ (j : Ty). record { type = j; facts = intersection (union f d.1) r.1 }) (join y d.0 r.0)) ty out) m r.3)

  choice_bool : (b : BoolType) → Good w (bool_type b) f ot → (ot ≡ Some (val (truth_value true)) → (u : Ty) (g : Facts) → first f u g → Good w u g oa) → (ot ≡ Some (val (truth_value false)) → (u : Ty) (g : Facts) → second u g → Good w u g ob)
      → (ty : Ty) (out : Facts) → ChoiceTyped s first second (bool_type b) f ty out → Good w ty out (bind ot (picked oa ob))
  choice_bool b h n o ty out d =
      good_bind w (bool_type b) ot (picked oa ob) ty out h.fine
      (λ v e i. let k = bool_value b v i in
      let q : ot ≡ Some (val (truth_value k.0)) = e ∙ ap (λ x. Some (val x)) k.1 in
      let at = λ (c : Bool) (t : k.0 ≡ c). q ∙ ap (λ x. Some (val (truth_value x))) t in
      subst (λ z. Good w ty out (picked oa ob z)) (sym k.1) (choice_at b k.0 k.2 (λ t. h.holds (at true t)) (λ t. n (at true t)) (λ t. o (at false t)) ty out d))

  pub choice_good : (t : Ty) → Good w t f ot → (ot ≡ Some (val (truth_value true)) → (u : Ty) (g : Facts) → first f u g → Good w u g oa) → (ot ≡ Some (val (truth_value false)) → (u : Ty) (g : Facts) → second u g → Good w u g ob)
      → (ty : Ty) (out : Facts) → ChoiceTyped s first second t f ty out → Good w ty out (bind ot (picked oa ob))
  choice_good (bool_type b) h n o ty out d = choice_bool b h n o ty out d
  choice_good never h n o ty out d = absurd d
  choice_good long_type h n o ty out d = absurd d
  choice_good string_type h n o ty out d = absurd d
  choice_good any_entity h n o ty out d = absurd d
  choice_good (entity_types ns) h n o ty out d = absurd d
  choice_good any_set h n o ty out d = absurd d
  choice_good (set_type t) h n o ty out d = absurd d
  choice_good (record_type as_ p) h n o ty out d = absurd d
  choice_good (extension_type x) h n o ty out d = absurd d
