-- Policies by schemas that answer alike: the same pass, and none reaches further.
use Rattle.std.proofs.Common.{◌≡◌, ◌↔◌, ◌∙◌, ℕ, true, List, Option, sym, subst, inl, inr, ⊎_elim}
use Rattle.std.specs.Prelude.{Contains}
use Rattle.std.proofs.lemmas.List.Sorted.{Contains-permutation}
use Rattle.cedar_expr_model.specs.Name.{Name}
use Rattle.cedar_expr_model.specs.Table.{Table}
use Rattle.cedar_expr_model.proofs.Lists.{all_each, all_from, flat_from, flat_has}
use Rattle.cedar_store_model.specs.Policy.{Policy, condition}
use Rattle.cedar_schema_model.specs.BagLaws.{IsReordered}
use Rattle.cedar_schema_model.specs.Declarations.{Declarations}
use Rattle.cedar_schema_model.specs.Resolved.{schema_of}
use Rattle.cedar_schema_model.specs.WellFormed.{IsWellFormed}
use Rattle.cedar_schema_model.proofs.Decls.SameSchema.{same_types_found, same_actions_found, types_moved, actions_moved}
use Rattle.cedar_schema_model.specs.DeclLaws.{IsAtOrAbove, TakesSlot}
use Rattle.cedar_schema_model.specs.Environment.{Environment, SlotUse, no_slot, equal_slot, in_slot, environments}
use Rattle.cedar_schema_model.specs.Schema.{Schema}
use Rattle.cedar_schema_model.specs.Types.{strict}
use Rattle.cedar_schema_model.proofs.Decls.Environments.{products, slots_covered}
use Rattle.cedar_typechecker_model.specs.Levels.{Violation}
use Rattle.cedar_typechecker_model.specs.Verdicts.{scope_use, policy_environments, strictly, is_bool, Passes, passes, violations_in, policy_violations}
use Rattle.cedar_typechecker_model.specs.Typing.{type_of}
use Rattle.cedar_typechecker_model.proofs.Verdicts.{passes-Decides}
use Rattle.cedar_typechecker_model.proofs.Moved.Levels.{same_is_bool, same_violations_in}
use Rattle.cedar_typechecker_model.proofs.Moved.Schemas.{IsMoved, moved_back, names_into, descends_into}

module _ (s t : Schema) (m : IsMoved s t) where
  environments_into : (e : Environment) → Contains (environments s) e → Contains (environments t) e
  environments_into e k = let r = (products s e).0 k in (products t e).1 (r.0, Contains-permutation s.actions t.actions r.0 m.actions r.1, r.2)

  above_into : (n k : Name) → IsAtOrAbove s n k → IsAtOrAbove t n k
  above_into n k h = ⊎_elim (λ e. inl e) (λ r. inr (names_into s t m k r.0, descends_into s t m n k r.1)) h

  slot_into : (u : SlotUse) (n : Name) (o : Option Name) → TakesSlot s u n o → TakesSlot t u n o
  slot_into no_slot n o h = h
  slot_into equal_slot n o h = h
  slot_into in_slot n o h = (h.0, above_into n h.0 h.1, h.2)

  pub policies_into : (p : Policy) (e : Environment) → Contains (policy_environments s p) e → Contains (policy_environments t p) e
  policies_into p e k =
      let a = scope_use p.principal in
      let b = scope_use p.resource in
      let r = (slots_covered s a b e).0 k in
      (slots_covered t a b e).1 (r.0, environments_into r.0 r.1, ((r.2).0, slot_into a (r.0).principal (r.2).0 (r.2).1, (((r.2).2).0, slot_into b (r.0).resource ((r.2).2).0 ((r.2).2).1, ((r.2).2).2)))

module _ (s t : Schema) (m : IsMoved s t) (x : Table) where
  pub passes_into : (p : Policy) → passes s x p ≡ true → passes t x p ≡ true
  passes_into p h =
      all_from (λ (e : Environment). is_bool (type_of (strictly t x e) (condition p))) (policy_environments t p)
      (λ e k. sym (same_is_bool s t m strict x e p) ∙ all_each (λ (e : Environment). is_bool (type_of (strictly s x e) (condition p))) (policy_environments s p) h e (policies_into t s (moved_back s t m) p e k))

  pub violations_into : (n : ℕ) (p : Policy) (v : Violation) → Contains (policy_violations n t x p) v → Contains (policy_violations n s x p) v
  violations_into n p v k =
      let r = flat_from (violations_in strict n t x p) (policy_environments t p) v k in
      flat_has (violations_in strict n s x p) (policy_environments s p) r.0 v (policies_into t s (moved_back s t m) p r.0 r.1) (subst (λ l. Contains l v) (sym (same_violations_in s t m strict x r.0 n p)) r.2)

-- the schemas of reordered declarations
pub schemas_moved : (ns : List Name) (d e : Declarations) → IsWellFormed ns d → IsReordered d e → IsMoved (schema_of d) (schema_of e)
schemas_moved ns d e w m = record {
  types = types_moved ns d e m w;
  actions = actions_moved ns d e m w;
  found_type = same_types_found ns d e m w;
  found_action = same_actions_found ns d e m w;
}

pub order_passes : (ns : List Name) (d e : Declarations) (x : Table) (p : Policy) → IsWellFormed ns d → IsReordered d e → Passes (schema_of d) x p → Passes (schema_of e) x p
order_passes ns d e x p w m h = (passes-Decides strict (schema_of e) x p).0 (passes_into (schema_of d) (schema_of e) (schemas_moved ns d e w m) x p ((passes-Decides strict (schema_of d) x p).1 h))

pub order_finds : (ns : List Name) (d e : Declarations) (x : Table) (p : Policy) (n : ℕ) (v : Violation) → IsWellFormed ns d → IsReordered d e
    → Contains (policy_violations n (schema_of d) x p) v ↔ Contains (policy_violations n (schema_of e) x p) v
order_finds ns d e x p n v w m =
    let k = schemas_moved ns d e w m in
    (violations_into (schema_of e) (schema_of d) (moved_back (schema_of d) (schema_of e) k) x n p v, violations_into (schema_of d) (schema_of e) k x n p v)
