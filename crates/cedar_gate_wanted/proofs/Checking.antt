-- Faults of a supply.
use Rattle.std.proofs.Common.{◌≡◌, ◌⊎◌, inl, inr, Bool, true, false, cond, List, [], ◌∷◌, length, Contains, Option, Some, None, refl, sym, ap, ◌∙◌, subst}
use Rattle.std.specs.List.{list_all}
use Rattle.std.specs.Map.{lookup}
use Rattle.std.specs.Prelude.{◌↔◌, IsSome, is_some, Result, Ok, Err, IfErr, IsErrAnd}
use Rattle.cedar_expr_model.specs.Uid.{Uid, uid_eq}
use Rattle.cedar_expr_model.proofs.Equality.{uid_eq-Decides}
use Rattle.cedar_expr_names.specs.Views.{uid_of}
use Rattle.cedar_expr_names.specs.declared.entity.EntityUID.{EntityUID}
use Rattle.cedar_gate_wanted.specs.Supplying.{IsOut}
use Rattle.cedar_gate_wanted.proofs.Testing.{not_all}

-- the keys of a supply, and what is left of them once what is wanted is taken out
module _ (wanted keys : List Uid) (before after : Uid → Option (Unit {0})) (has : (u : Uid) → IsSome (before u) ↔ Contains keys u) (out : (u : Uid) → IsOut wanted before after u) where
  -- one lacks
  pub lacks_one : list_all (λ u. is_some (before u)) wanted ≡ false → (u : Uid) × Contains wanted u × (Contains keys u → ⊥)
  lacks_one h = let (u, c, f) = not_all (λ u. is_some (before u)) wanted h in (u, c, λ k. let e : is_some (before u) ≡ true = (has u).1 k in cc)

  -- one isn't wanted
  pub not_wanted : (u : Uid) → IsSome (after u) → (u : Uid) × Contains keys u × (Contains wanted u → ⊥)
  not_wanted u k = elim (out u) [
    | inl gone ↦ (let lie : true ≡ false = sym k ∙ ap is_some gone.1 in cc)
    | inr stays ↦ (u, (has u).0 (subst IsSome stays.1 k), stays.0)
  ]

  -- each is wanted where none is left
  pub all_wanted : ((u : Uid) → after u ≡ None) → (u : Uid) → Contains keys u → Contains wanted u
  all_wanted none u k = elim (out u) [
    | inl gone ↦ gone.0
    | inr stays ↦ (let lie : true ≡ false = sym ((has u).1 k) ∙ ap is_some (sym stays.1 ∙ none u) in cc)
  ]

-- what a map holds, by its entries
pub nothing_in : {X : Type 0} (es : List (EntityUID × X)) → length es ≡ 0 → (u : Uid) → lookup (λ k. uid_eq u (uid_of k)) es ≡ None
nothing_in [] e u = refl
nothing_in (p ∷ es) e u = cc

pub something_in : {X : Type 0} (es : List (EntityUID × X)) → (length es ≡ 0 → ⊥) → (u : Uid) × IsSome (lookup (λ k. uid_eq u (uid_of k)) es)
something_in [] e = absurd (e refl)
something_in (p ∷ es) e = (uid_of p.0, ap (λ b. is_some (cond b (Some p.1) (lookup (λ k. uid_eq (uid_of p.0) (uid_of k)) es))) ((uid_eq-Decides (uid_of p.0) (uid_of p.0)).1 refl))

-- what a refusal says is handed on
pub handed : {B E : Type 0} (P : E → Type 0) (e : E) (r : Result B E) → IsErrAnd r (λ y. y ≡ e) → P e → IfErr r P
handed P e (Ok y) same h = tt
handed P e (Err y) same h = subst P (sym same) h
