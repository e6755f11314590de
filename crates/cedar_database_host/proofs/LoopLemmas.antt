-- Calls whose fault is another's, and the answers of a loop, one after the other.
use Rattle.std.proofs.Common.{◌≡◌, ◌∙◌, ◌<◌, ◌+◌, ℕ, Bool, List, [], ◌∷◌, ◌++◌, map, take, get_or, length, true, false, Ok, Err, Result, IsTrue, sym, ap, subst}
use Rattle.std.specs.Prelude.{if◌then◌else◌, is_ok}
use Rattle.std.specs.Result.{MatchResult}
use Rattle.std.proofs.lemmas.List.{take_more, map-append}
use Rattle.cedar_expr_names.specs.Views.{uid_of}
use Rattle.cedar_expr_names.specs.declared.entity.EntityUID.{EntityUID}
use Rattle.cedar_expr_model.specs.Uid.{Uid}
use Rattle.sqlite.specs.State.{State, HasCleanDisk}
use Rattle.cedar_database_host.specs.Lookup.{IsSettled, LooksOnly}
use Rattle.cedar_database_host.proofs.AnswerLemmas.{clean_before, settled_on}

-- what is known of the value of a call whose fault is made another one
pub mapped_ok : {T E D : Type 0} (P : T → Type 0) (r : Result T E) (m : Result T D) (Q R : E → Type 0) (x : T) → MatchResult r (λ y. m ≡ Ok y) Q → m ≡ Ok x → is_ok m ≡ is_ok r → MatchResult r P R → P x
mapped_ok P (Ok y) m Q R x is was variant h = let same : y ≡ x = cc in subst P same h
mapped_ok P (Err e) m Q R x is was variant h = absurd (let no : true ≡ false = sym (ap is_ok was) ∙ variant in let none : ⊥ = cc in none)

-- a push that is known to succeed by what its fault is made
pub pushed_ok : {T U E D : Type 0} (xs ys : List T) (x : T) (r : Result U E) (m : Result U D) (y : U) → ys ≡ (if is_ok r then xs ++ x ∷ [] else xs) → m ≡ Ok y → is_ok m ≡ is_ok r → ys ≡ xs ++ x ∷ []
pushed_ok xs ys x r m y items was variant = items ∙ ap (λ (b : Bool). if b then xs ++ x ∷ [] else xs) (sym variant ∙ ap is_ok was)

-- one more item on both sides
pub one_more : {A C U : Type 0} (f : A → C) (h : U → C) (xs ys : List A) (x : A) (us vs : List U) (u : U) → ys ≡ xs ++ x ∷ [] → vs ≡ us ++ u ∷ [] → map f xs ≡ map h us → f x ≡ h u → map f ys ≡ map h vs
one_more f h xs ys x us vs u more further so_far here =
    ap (map f) more ∙ map-append f xs (x ∷ []) ∙ (λ i. so_far i ++ here i ∷ []) ∙ sym (map-append h us (u ∷ [])) ∙ ap (map h) (sym further)

pub next_uids : (uids : List EntityUID) (i : ℕ) (uid : EntityUID) → i < length uids → uid ≡ get_or uids i uid → map uid_of (take (i + 1) uids) ≡ map uid_of (take i uids) ++ uid_of uid ∷ []
next_uids uids i uid within is = ap (map uid_of) (take_more uids i uid within) ∙ map-append uid_of (take i uids) (get_or uids i uid ∷ []) ∙ ap (λ z. map uid_of (take i uids) ++ uid_of z ∷ []) (sym is)

pub known_more : {A : Type 0} (f : A → Uid) (xs ys : List A) (x : A) (uids : List EntityUID) (i : ℕ) (uid : EntityUID) → i < length uids → uid ≡ get_or uids i uid → ys ≡ xs ++ x ∷ [] → map f xs ≡ map uid_of (take i uids) → f x ≡ uid_of uid
    → map f ys ≡ map uid_of (take (i + 1) uids)
known_more f xs ys x uids i uid within is more so_far here =
    ap (map f) more ∙ map-append f xs (x ∷ []) ∙ (λ j. so_far j ++ here j ∷ []) ∙ sym (next_uids uids i uid within is)

-- an open database that shows a clean disk did so at each look-up before
module _ (a b c : State) (first : LooksOnly a b) (second : LooksOnly b c) (clean : HasCleanDisk c) (is_open : IsTrue c.is_open) (settled : IsSettled a) where
  pub clean_between : HasCleanDisk b
  clean_between = clean_before b c second clean

  pub open_between : IsTrue b.is_open
  open_between = (second.stays clean is_open (settled_on a b first clean_between settled)).was_open

  pub same_between : b.now ≡ a.now
  same_between = (first.stays clean_between open_between settled).now
