-- The worked supplies.
use Rattle.std.proofs.Common.{◌≡◌, true, false, List, [], ◌∷◌, Some, inl, inr, ⊎_elim, refl, sym, subst, arith}
use Rattle.std.specs.Prelude.{Contains}
use Rattle.std.specs.List.{list_any}
use Rattle.cedar_expr_model.specs.Uid.{Uid, uid_eq}
use Rattle.cedar_expr_model.specs.Value.{V}
use Rattle.cedar_expr_model.proofs.Lists.{contains_cases, contains_none, contains_head, found-Decides}
use Rattle.cedar_expr_model.proofs.Equality.{uid_eq-Decides}
use Rattle.cedar_store_model.specs.World.{Entity}
use Rattle.cedar_schema_model.specs.Conforming.{entity_conforms}
use Rattle.cedar_schema_model.proofs.Decls.Conforming.{entity_conforms-Decides}
use Rattle.cedar_typechecker_model.specs.Worked.{user_a, doc_d}
use Rattle.cedar_typechecker_model.specs.Slice.{slice}
use Rattle.std.specs.Map.{keys_of}
use Rattle.cedar_gate_model.specs.Session.{at_start, known_now, IsWantedNow, IsWrong, SupplyFault, not_wanted, lacking, wrong_entity, repeated}
use Rattle.cedar_gate_model.specs.WorkedGate.{user_b, user_z, person, document, ordinary, right_supply, with_z, only_d, twice_d, b_for_a, without_ok, lacks_ok}
use Rattle.cedar_gate_model.proofs.Gate.Slices.{slice_is_listed}

-- what is wanted at first, as a list
abbrev wanted_list : List Uid
wanted_list = slice ordinary.schema 2 (known_now ordinary at_start)

wanted : (u : Uid) → Contains wanted_list u → IsWantedNow ordinary at_start u
wanted u k = ((slice_is_listed ordinary.schema 2 (known_now ordinary at_start) u).0 k, contains_none u)

in_list : (u : Uid) (us : List Uid) → list_any (uid_eq u) us ≡ true → Contains us u
in_list u us e = (found-Decides uid_eq uid_eq-Decides u us).0 e

not_in_list : (u : Uid) (us : List Uid) → list_any (uid_eq u) us ≡ false → Contains us u → ⊥
not_in_list u us e k = let t = (found-Decides uid_eq uid_eq-Decides u us).1 k in cc

pub stray : SupplyFault ordinary at_start with_z not_wanted
stray = (user_z, in_list user_z (keys_of with_z) refl, λ h. not_in_list user_z wanted_list refl ((slice_is_listed ordinary.schema 2 (known_now ordinary at_start) user_z).1 h.0))

pub short : SupplyFault ordinary at_start only_d lacking
short = (user_a, wanted user_a (in_list user_a wanted_list refl), not_in_list user_a (keys_of only_d) refl)

pub doubled : SupplyFault ordinary at_start twice_d repeated
doubled = refl

pub swapped : SupplyFault ordinary at_start b_for_a wrong_entity
swapped = (_, contains_head (user_a, Some (user_b, person user_a true)) [], inl refl)

wrong_one : (u : Uid) (e : Entity V) → entity_conforms ordinary.schema u e ≡ false → IsWrong ordinary.schema (u, Some (u, e))
wrong_one u e c = inr (λ h. let t = (entity_conforms-Decides ordinary.schema u e).1 h in cc)

pub not_conforming_one : SupplyFault ordinary at_start lacks_ok wrong_entity
not_conforming_one = (_, (0, omega arith, refl), wrong_one user_a without_ok refl)

-- the two that are wanted are supplied
both_supplied : (u : Uid) → Contains wanted_list u → Contains (keys_of right_supply) u
both_supplied u k =
    contains_cases (Contains (keys_of right_supply) u) user_a (doc_d ∷ []) u k (λ e. subst (Contains (keys_of right_supply)) e (in_list user_a (keys_of right_supply) refl))
    (λ m. contains_cases (Contains (keys_of right_supply) u) doc_d [] u m (λ e. subst (Contains (keys_of right_supply)) e (in_list doc_d (keys_of right_supply) refl)) (λ n. absurd (contains_none u n)))

pub nothing_lacks : SupplyFault ordinary at_start right_supply lacking → ⊥
nothing_lacks h = h.2 (both_supplied h.0 ((slice_is_listed ordinary.schema 2 (known_now ordinary at_start) h.0).1 h.1.0))

pub nothing_twice : SupplyFault ordinary at_start right_supply repeated → ⊥
nothing_twice h = let k : false ≡ true = h in cc

right_one : (u : Uid) (e : Entity V) → uid_eq u u ≡ true → entity_conforms ordinary.schema u e ≡ true → IsWrong ordinary.schema (u, Some (u, e)) → ⊥
right_one u e t c h = ⊎_elim (λ f. let g = t in cc) (λ n. n ((entity_conforms-Decides ordinary.schema u e).0 c)) h

pub nothing_wrong : SupplyFault ordinary at_start right_supply wrong_entity → ⊥
nothing_wrong h =
    contains_cases ⊥ (doc_d, Some (doc_d, document user_b)) ((user_a, Some (user_a, person user_a true)) ∷ []) h.0 h.1
    (λ e. right_one doc_d (document user_b) refl refl (subst (IsWrong ordinary.schema) (sym e) h.2))
    (λ m. contains_cases ⊥ (user_a, Some (user_a, person user_a true)) [] h.0 m
    (λ e. right_one user_a (person user_a true) refl refl (subst (IsWrong ordinary.schema) (sym e) h.2))
    (contains_none h.0))
