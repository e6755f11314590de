-- Maps whose keys are texts: what a change at one text leaves at any text.
use Rattle.std.proofs.Common.{◌≡◌, ℕ, Bool, true, false, cond, List, Option, option_map, refl, sym, ap, ◌∙◌, subst, ⊎_elim}
use Rattle.std.proofs.lemmas.Bool.{cases_Bool, cond-true, cond-false}
use Rattle.std.proofs.lemmas.Slice.Eq.{bytes_eq-Decides}
use Rattle.std.specs.HashMap.{HashMap, get_by, UpdatesBy}
use Rattle.std.specs.Map.{lookup, IsKeyTest, AreApart, KeepsOthers}
use Rattle.std.specs.Rc.{rc_str_bytes}
use Rattle.std.specs.Str.{bytes_eq}
use Rattle.std.specs.declared.alloc.Global.{Global}
use Rattle.std.specs.declared.rc.RcStr.{RcStr}

false_of : (b : Bool) → (b ≡ true → ⊥) → b ≡ false
false_of true h = absurd (h refl)
false_of false h = refl

apart : (bs cs ks : List ℕ) → bytes_eq bs cs ≡ false → bytes_eq bs ks ≡ true → bytes_eq cs ks ≡ false
apart bs cs ks n y = false_of (bytes_eq cs ks) (λ z. let same : bs ≡ cs = (bytes_eq-Decides bs ks).0 y ∙ sym ((bytes_eq-Decides cs ks).0 z) in let k : true ≡ false = sym ((bytes_eq-Decides bs cs).1 same) ∙ n in cc)

module _ {K : Type 0} (eq : K → K → Bool) (test : K → Bool) where
  other_entries : {X : Type 0} (old new : List (K × X)) → KeepsOthers eq test old new → (other : K → Bool) → IsKeyTest eq other → AreApart test other → lookup other new ≡ lookup other old
  unfolding KeepsOthers
  other_entries old new h = h

-- g is w at bs, and f at other texts
by_bytes : {W : Type 0} (f g : List ℕ → W) (bs : List ℕ) (w : W) → g bs ≡ w → ((cs : List ℕ) → bytes_eq bs cs ≡ false → g cs ≡ f cs) → (cs : List ℕ) → g cs ≡ cond (bytes_eq bs cs) w (f cs)
by_bytes f g bs w here other cs =
    ⊎_elim
    (λ y. subst (λ l. g l ≡ w) ((bytes_eq-Decides bs cs).0 y) here ∙ sym (cond-true (bytes_eq bs cs) w (f cs) y))
    (λ n. other cs n ∙ sym (cond-false (bytes_eq bs cs) w (f cs) n))
    (cases_Bool (bytes_eq bs cs))

abbrev key_eq : RcStr Global → RcStr Global → Bool
key_eq j k = bytes_eq (rc_str_bytes j) (rc_str_bytes k)

pub text_updates : {X S : Type 0} (bs : List ℕ) (m n : HashMap (RcStr Global) X S) (w : Option X) → UpdatesBy key_eq (λ k. bytes_eq bs (rc_str_bytes k)) m n w
    → (cs : List ℕ) → get_by (λ k. bytes_eq cs (rc_str_bytes k)) n ≡ cond (bytes_eq bs cs) w (get_by (λ k. bytes_eq cs (rc_str_bytes k)) m)
text_updates bs m n w h = by_bytes (λ cs. get_by (λ k. bytes_eq cs (rc_str_bytes k)) m) (λ cs. get_by (λ k. bytes_eq cs (rc_str_bytes k)) n) bs w h.1
    (λ cs e. other_entries key_eq (λ k. bytes_eq bs (rc_str_bytes k)) m.entries n.entries h.3 (λ k. bytes_eq cs (rc_str_bytes k)) (λ x y q. ap (λ z. bytes_eq z (rc_str_bytes y)) ((bytes_eq-Decides cs (rc_str_bytes x)).0 q)) (λ k. apart bs cs (rc_str_bytes k) e))

-- A function is applied to a choice of two by being applied to both.
pub map_cond : {A B : Type 0} (f : A → B) (b : Bool) (o p : Option A) → option_map f (cond b o p) ≡ cond b (option_map f o) (option_map f p)
map_cond f true o p = refl
map_cond f false o p = refl
