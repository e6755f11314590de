-- Examples of relations: what is looked up, and which world knows more than another.
use Rattle.std.proofs.Common.{◌≡◌, [], true, false, refl, ap, ◌∙◌, inl, inr}
use Rattle.std.specs.Prelude.{Some, Contains}
use Rattle.cedar_expr_model.specs.Uid.{Uid, uid_eq}
use Rattle.cedar_expr_model.specs.Value.{V, prim, entity}
use Rattle.cedar_expr_model.specs.Tree.{var, principal, both, binary, is_in}
use Rattle.cedar_store_model.specs.World.{Entity}
use Rattle.cedar_store_model.specs.Looks.{Looks}
use Rattle.cedar_store_model.specs.Knowledge.{IsWhole}
use Rattle.cedar_store_model.specs.OfLaws.Extends.{Extends}
use Rattle.cedar_store_model.specs.Store.{all_of, as_open, world_of}
use Rattle.cedar_store_model.specs.Worked.{user_a, user_b, team, ok_of, boss_of, uid, says_true, says_false, no_unknowns, request, entities, table, number_value, world, world_without_b, nothing_loaded, a_loaded, principal_open}
use Rattle.cedar_expr_model.proofs.Lists.{contains_none}
use Rattle.cedar_store_model.proofs.Stores.{whole_extends_partial, whole_stores_are_whole}
use Rattle.cedar_store_model.proofs.Extends.{keeps_same}

pub looks_at_principal : Looks world (ok_of (var principal)) user_a
looks_at_principal = inr (prim (entity user_a), refl, refl)

pub looks_on_the_way : Looks world (ok_of (boss_of (uid user_b))) user_b
looks_on_the_way = inl (inr (prim (entity user_b), refl, refl))

pub looks_after_true : Looks world (both says_true (ok_of (var principal))) user_a
looks_after_true = inr (refl, inr (prim (entity user_a), refl, refl))

other_uid : user_a ≡ team → ⊥
other_uid e = let k : true ≡ false = ap (uid_eq user_a) e in cc

pub looks_left_alone : Looks world (binary is_in (uid user_a) (uid team)) team → ⊥
looks_left_alone (inl h) = absurd h
looks_left_alone (inr (v, m, inl h)) = absurd h
looks_left_alone (inr (v, m, inr (x, n, e))) = other_uid (let k : prim (entity user_a) ≡ v = cc in let l = k ∙ e in cc)

pub not_after_false : Looks world (both says_false (ok_of (var principal))) user_a → ⊥
not_after_false (inl h) = absurd h
not_after_false (inr h) = let k = h.0 in cc

pub from_nothing : Extends nothing_loaded world
from_nothing = whole_extends_partial table no_unknowns no_unknowns (as_open request) (as_open request) [] entities [] (λ n. keeps_same (no_unknowns n) (no_unknowns n) refl) (record { principal = refl; action = refl; resource = refl; context = refl }) (λ e h. absurd (nothing e h)) (λ u e h. absurd (contains_none u h)) refl
  where
    nothing : (e : Uid × Entity V) → Contains {X = Uid × Entity V} [] e → ⊥
    nothing e h = contains_none e h

pub not_back : Extends world nothing_loaded → ⊥
not_back h = let k = (h.store user_a).1 in cc

pub absence_is_known : Extends world_without_b world → ⊥
absence_is_known h = let k = h.store user_b in cc

pub whole_world : IsWhole (world_of table (λ n. Some (number_value 5)) (as_open request) (all_of entities))
whole_world = whole_stores_are_whole table (λ n. Some (number_value 5)) request entities (λ n. refl) refl

pub not_whole : IsWhole a_loaded → ⊥
not_whole h = h.store user_b

pub open_is_not_whole : IsWhole principal_open → ⊥
open_is_not_whole h = let k = h.principal in cc
