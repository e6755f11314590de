-- A store that is made of entities, one after the other.
use Rattle.std.proofs.Common.{◌≡◌, Bool, true, false, cond, List, [], ◌∷◌, ◌++◌, map, Option, Some, None, Result, Ok, Err, IfErr, refl, sym, ap, ◌∙◌, subst}
use Rattle.std.proofs.lemmas.List.{map-append}
use Rattle.std.specs.List.{list_any}
use Rattle.std.specs.Result.{IsErrAnd}
use Rattle.cedar_expr_names.specs.Views.{uid_of}
use Rattle.cedar_expr_model.specs.Uid.{Uid, uid_eq}
use Rattle.cedar_expr_model.specs.Repeats.{repeated}
use Rattle.cedar_expr_model.proofs.Lists.{found-Decides}
use Rattle.cedar_expr_model.proofs.Equality.{uid_eq-Decides}
use Rattle.cedar_expr_model.proofs.Repeating.{repeat_is_first}
use Rattle.cedar_store_model.specs.Store.{all_of, are_distinct, whole, store_of}
use Rattle.cedar_store_entities.specs.Places.{are_apart}
use Rattle.cedar_store_entities.specs.Refusals.{RefusesUid, RefusesUids}
use Rattle.cedar_store_entities.specs.Views.{entity_uid, entity_pair}
use Rattle.cedar_store_entities.specs.declared.err.EntitiesError.{EntitiesError}
use Rattle.cedar_store_entities.specs.declared.err.EntitiesError.TheVariants.{OutOfMemory, Duplicate}
use Rattle.cedar_store_entities.specs.declared.entity.Entity.{Entity}
use Rattle.cedar_store_entities.proofs.Led.{apart_distinct}

-- what a refusal says is handed on
pub handed : {B E : Type 0} (P : E → Type 0) (e : E) (r : Result B E) → IsErrAnd r (λ y. y ≡ e) → P e → IfErr r P
handed P e (Ok y) same h = tt
handed P e (Err y) same h = subst P (sym same) h

pub listed_uids : (es : List Entity) → map (λ e. e.0) (map entity_pair es) ≡ map entity_uid es
listed_uids [] = refl
listed_uids (e ∷ es) = ap (λ us. entity_uid e ∷ us) (listed_uids es)

-- no uid is repeated among entities whose uids are these
pub apart_entities : (es : List Entity) (us : List Uid) → us ≡ map entity_uid es → are_apart us ≡ true → are_distinct (map entity_pair es) ≡ true
apart_entities es us n d = ap are_apart (listed_uids es ∙ sym n) ∙ d

-- an entity of a uid is there where the uid is one of these
pub present_is : (es : List Entity) (us : List Uid) (u : Uid) → us ≡ map entity_uid es → list_any (uid_eq u) (map (λ e. e.0) (map entity_pair es)) ≡ list_any (uid_eq u) us
present_is es us u n = ap (list_any (uid_eq u)) (listed_uids es ∙ sym n)

-- the store of entities that were put in, one after the other
pub made_store : (xs : List Entity) → are_distinct (map entity_pair xs) ≡ true → store_of whole (map entity_pair xs) ≡ Some (all_of (map entity_pair xs))
made_store xs d = ap (λ b. cond b (Some (all_of (map entity_pair xs))) None) d

-- a uid that is there is the first that is repeated
module _ (xs rest : List Entity) (x : Entity) (d : are_apart (map entity_uid xs) ≡ true) where
  met_again : list_any (uid_eq (entity_uid x)) (map entity_uid xs) ≡ true → repeated uid_eq (map entity_uid (xs ++ x ∷ rest)) ≡ Some (entity_uid x)
  met_again h =
      (repeat_is_first uid_eq uid_eq-Decides (map entity_uid (xs ++ x ∷ rest)) (entity_uid x)).1
      (map entity_uid xs, map entity_uid rest, map-append entity_uid xs (x ∷ rest), apart_distinct (map entity_uid xs) d, (found-Decides uid_eq uid_eq-Decides (entity_uid x) (map entity_uid xs)).0 h)

  refused_one : (e : EntitiesError) → RefusesUid (map entity_uid xs) (entity_uid x) e → RefusesUids (map entity_uid (xs ++ x ∷ rest)) e
  refused_one OutOfMemory h = tt
  refused_one (Duplicate u) h = met_again h.0 ∙ ap Some (sym h.1)

  -- why one more entity is refused is why all of them are
  pub refused_all : (all : List Entity) (e : EntitiesError) → all ≡ xs ++ x ∷ rest → RefusesUid (map entity_uid xs) (entity_uid x) e → RefusesUids (map entity_uid all) e
  refused_all all e goes h = subst (λ ys. RefusesUids (map entity_uid ys) e) (sym goes) (refused_one e h)
