-- What is wanted before and after writes.
use Rattle.std.proofs.Common.{◌≡◌, ◌⊎◌, inl, inr, ◌&&◌, ℕ, Bool, true, false, not, List, [], ◌∷◌, Contains, Option, Some, None, refl, sym, ap, ◌∙◌, subst, map, arith}
use Rattle.std.specs.Prelude.{◌↔◌, IsSome, is_some}
use Rattle.cedar_expr_model.specs.Uid.{Uid}
use Rattle.cedar_expr_model.proofs.Lists.{both_hold, hold_both, map_from, map_has, contains_none}
use Rattle.cedar_expr_names.specs.Views.{uid_of}
use Rattle.cedar_expr_names.specs.declared.entity.EntityUID.{EntityUID}
use Rattle.cedar_gate_wanted.specs.Kept.{IsUndo, IsWrite, IsWritten}
use Rattle.cedar_gate_wanted.specs.Rows.{writes}
use Rattle.cedar_gate_wanted.proofs.Fresh.{fresh_in_log}
use Rattle.cedar_gate_wanted.specs.Supplying.{keys_in}
use Rattle.cedar_schema_model.specs.Schema.{Schema, declares_action}

not_true : (b : Bool) → not b ≡ true → b ≡ false
not_true true e = cc
not_true false e = refl

not_false : (b : Bool) → b ≡ false → not b ≡ true
not_false b e = ap not e

module _ {X : Type 0} (s : Schema) (u : Uid) where
  -- what it says that a uid is open
  pub open_parts : (d : Option ℕ) (r : Option X) → (is_some d && (not (is_some r) && not (declares_action s u))) ≡ true → (is_some d ≡ true) × (is_some r ≡ false) × (declares_action s u ≡ false)
  open_parts d r e =
      let p = both_hold (is_some d) _ e in
      let q = both_hold (not (is_some r)) _ p.1 in
      (p.0, not_true _ q.0, not_true _ q.1)

  pub open_made : (d : Option ℕ) (r : Option X) → is_some d ≡ true → is_some r ≡ false → declares_action s u ≡ false → (is_some d && (not (is_some r) && not (declares_action s u))) ≡ true
  open_made d r e f g = hold_both (is_some d) _ e (hold_both (not (is_some r)) _ (not_false _ f) (not_false _ g))

stays_written : (log : List (Uid × Option ℕ)) (f g : Uid → Option ℕ) (q : Uid) → IsWritten log f g → IsSome (f q) → IsSome (g q)
stays_written [] f g q i k = subst (λ o. IsSome o) (sym (i q)) k
stays_written ((u, o) ∷ log) f g q (h, v, i) k = stays_written log h g q i (elim (v.apart q) [
  | inl this ↦ subst (λ z. IsSome (h z)) (sym this) (v.stays (subst (λ p. IsSome p) v.before (subst (λ z. IsSome (f z)) this k)))
  | inr same ↦ subst (λ p. IsSome p) (sym same) k
])

-- what stands at a uid stands there after writes
pub stays : (log : List (Uid × Option ℕ)) (f g : Uid → Option ℕ) (q : Uid) → IsUndo log f g → IsSome (f q) → IsSome (g q)
stays log f g q i k = stays_written log f g q i.written k

some_or_none : (o : Option ℕ) → IsSome o ⊎ (o ≡ None)
some_or_none None = inr refl
some_or_none (Some d) = inl refl

-- a uid that has a distance now and had none was written
pub written_anew : (log : List (EntityUID × Option ℕ)) (f g : Uid → Option ℕ) (q : Uid) → IsUndo (writes log) f g → f q ≡ None → IsSome (g q) → Contains (keys_in log) q
written_anew log f g q i none some =
    let (w, c, e) = map_from (λ (w : EntityUID × Option ℕ). (uid_of w.0, w.1)) log (q, None) (fresh_in_log (writes log) f g q i none some) in
    subst (λ z. Contains (keys_in log) z) (ap (λ (x : Uid × Option ℕ). x.0) e) (map_has (λ (p : EntityUID × Option ℕ). uid_of p.0) log w c)

pub had_or_not : (f : Uid → Option ℕ) (q : Uid) → IsSome (f q) ⊎ (f q ≡ None)
had_or_not f q = some_or_none (f q)
