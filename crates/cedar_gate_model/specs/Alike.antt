-- A schema and what is kept, by which the same conforms.
-- Rule: conforming entities; conforming requests; action entities (docs/RULES.md).
use Rattle.std.specs.Prelude.{◌≡◌, List, map, true, is_some, Contains}
use Rattle.std.specs.List.{list_any}
use Rattle.cedar_expr_model.specs.Uid.{Uid, uid_eq}
use Rattle.cedar_expr_model.specs.Value.{V}
use Rattle.cedar_store_model.specs.Store.{OpenRequest}
use Rattle.cedar_store_model.specs.World.{Entity}
use Rattle.cedar_schema_model.specs.ActionEntities.{action_ancestors, as_entity}
use Rattle.cedar_schema_model.specs.BagLaws.{HasTwice}
use Rattle.cedar_schema_model.specs.Conforming.{ConformFault, has_entity_fault, has_request_fault}
use Rattle.cedar_schema_model.specs.Schema.{Schema, declares_action}
use Rattle.cedar_schema_model.specs.Kept.{Kept, kept_action, kept_action_ancestors}
use Rattle.cedar_schema_model.specs.KeptLaws.{IsSameEntity}
use Rattle.cedar_gate_model.specs.Asked.{kept_entity_fault, kept_request_fault}

-- Entities and requests have the same faults by the one and by the other, the same actions are declared, and they have the same
-- ancestors. These are equations of tests, of which there is one proof at most.
pub record ConformsAlike (s : Schema) (k : Kept) : Type 0 where
  pub entities : (u : Uid) (e : Entity V) (f : ConformFault) → has_entity_fault s u e f ≡ kept_entity_fault k u e f
  pub requests : (r : OpenRequest) (f : ConformFault) → has_request_fault s r f ≡ kept_request_fault k r f
  pub actions : (u : Uid) → declares_action s u ≡ is_some (kept_action k u)
  pub ancestors : (u v : Uid) → list_any (uid_eq v) (action_ancestors s u) ≡ list_any (uid_eq v) (kept_action_ancestors k u)

-- These are the declared actions as entities: each is one, none lacks, and none is repeated. Ancestors may stand in any order.
pub record AreActionEntities (s : Schema) (es : List (Uid × Entity V)) : Type 0 where
  pub each : (d : Uid × Entity V) → Contains es d → (declares_action s d.0 ≡ true) × IsSameEntity d (d.0, as_entity s d.0)
  pub all : (u : Uid) → declares_action s u ≡ true → Contains (map (λ d. d.0) es) u
  pub once : HasTwice (map (λ d. d.0) es) → ⊥
