-- Rising lists of uids.
use Rattle.std.proofs.Common.{◌≡◌, ◌∙◌, true, List, [], ◌∷◌, ◌++◌, inl, inr, ⊎_elim, refl, sym, ap}
use Rattle.std.specs.Prelude.{Contains}
use Rattle.std.specs.Ordering.{is_lt}
use Rattle.std.specs.Cmp.{IsTotalOrder}
use Rattle.std.proofs.lemmas.Cmp.{nat_list_cmp_total, on_total, then_total, tied_itself}
use Rattle.std.proofs.lemmas.List.Elements.{Contains-append_cases}
use Rattle.std.specs.declared.cmp.Ordering.TheVariants.{Less}
use Rattle.cedar_expr_model.specs.Name.{name_text}
use Rattle.cedar_expr_model.specs.Uid.{Uid}
use Rattle.cedar_expr_model.specs.UidOrder.{uid_cmp, are_rising}
use Rattle.cedar_expr_model.proofs.Lists.{both_hold, contains_head, contains_tail, contains_cases, contains_none}
use Rattle.cedar_expr_model.proofs.Rising.{less_is}
use Rattle.cedar_schema_model.specs.BagLaws.{HasTwice}

uid_total : IsTotalOrder uid_cmp
uid_total = then_total (on_total (λ (u : Uid). name_text u.kind) nat_list_cmp_total) (on_total (λ (u : Uid). u.id) nat_list_cmp_total)

never_below_itself : (u : Uid) → uid_cmp u u ≡ Less → ⊥
never_below_itself u e = let q = tied_itself uid_total u in cc

-- the rest of a rising list rises, and the first stands before each of it
rest_rises : (u : Uid) (us : List Uid) → are_rising (u ∷ us) ≡ true → are_rising us ≡ true
rest_rises u [] r = refl
rest_rises u (v ∷ us) r = (both_hold (is_lt (uid_cmp u v)) (are_rising (v ∷ us)) r).1

below_each : (u : Uid) (us : List Uid) → are_rising (u ∷ us) ≡ true → (v : Uid) → Contains us v → uid_cmp u v ≡ Less
below_each u [] r v k = absurd (contains_none v k)
below_each u (w ∷ us) r v k =
    let p = both_hold (is_lt (uid_cmp u w)) (are_rising (w ∷ us)) r in
    let first = less_is (uid_cmp u w) p.0 in
    contains_cases (uid_cmp u v ≡ Less) w us v k (λ e. ap (uid_cmp u) (sym e) ∙ first) (λ m. uid_total.trans u w v first (below_each w us p.1 v m))

pub rising_once : (us : List Uid) → are_rising us ≡ true → HasTwice us → ⊥
rising_once [] r h = h
rising_once (u ∷ us) r h = ⊎_elim (λ k. never_below_itself u (below_each u us r u k)) (rising_once us (rest_rises u us r)) h

-- rising lists with the same members are one
head_is : (u v : Uid) (us vs : List Uid) → are_rising (u ∷ us) ≡ true → are_rising (v ∷ vs) ≡ true → Contains (v ∷ vs) u → Contains (u ∷ us) v → u ≡ v
head_is u v us vs r s k l =
    contains_cases (u ≡ v) v vs u k (λ e. sym e)
    (λ a. contains_cases (u ≡ v) u us v l (λ e. e) (λ b. absurd (never_below_itself u (uid_total.trans u v u (below_each u us r v b) (below_each v vs s u a)))))

later : (u v x : Uid) (us vs : List Uid) → u ≡ v → are_rising (u ∷ us) ≡ true → Contains us x → Contains (v ∷ vs) x → Contains vs x
later u v x us vs e r k l = contains_cases (Contains vs x) v vs x l (λ q. absurd (never_below_itself u (ap (uid_cmp u) (e ∙ q) ∙ below_each u us r x k))) (λ m. m)

pub same_rising : (us vs : List Uid) → are_rising us ≡ true → are_rising vs ≡ true → ((x : Uid) → Contains us x → Contains vs x) → ((x : Uid) → Contains vs x → Contains us x) → us ≡ vs
same_rising [] [] r s f g = refl
same_rising [] (v ∷ vs) r s f g = absurd (contains_none v (g v (contains_head v vs)))
same_rising (u ∷ us) [] r s f g = absurd (contains_none u (f u (contains_head u us)))
same_rising (u ∷ us) (v ∷ vs) r s f g =
    let e = head_is u v us vs r s (f u (contains_head u us)) (g v (contains_head v vs)) in
    let rest = same_rising us vs (rest_rises u us r) (rest_rises v vs s) (λ x k. later u v x us vs e r k (f x (contains_tail u us x k))) (λ x k. later v u x vs us (sym e) s k (g x (contains_tail v vs x k))) in
    λ i. e i ∷ rest i

-- nothing twice in two lists that have nothing in common
pub apart_once : (us vs : List Uid) → (HasTwice us → ⊥) → (HasTwice vs → ⊥) → ((u : Uid) → Contains us u → Contains vs u → ⊥) → HasTwice (us ++ vs) → ⊥
apart_once [] vs a b c h = b h
apart_once (u ∷ us) vs a b c h =
    ⊎_elim (λ k. ⊎_elim (λ m. a (inl m)) (λ m. c u (contains_head u us) m) (Contains-append_cases us vs u k))
    (apart_once us vs (λ m. a (inr m)) b (λ x k m. c x (contains_tail u us x k) m)) h
