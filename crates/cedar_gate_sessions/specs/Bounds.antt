-- Policies beside their verdicts: those of an effect that are satisfied or residual, and those that are picked.
-- Rule: partial responses; owed decisions (docs/RULES.md).
use Rattle.std.specs.Prelude.{◌&&◌, Bool, List, map, Option, Some, None, if◌then◌else◌}
use Rattle.std.specs.List.{filter_map}
use Rattle.cedar_expr_model.specs.Name.{Text}
use Rattle.cedar_store_model.specs.Policy as model
use Rattle.cedar_store_parts.specs.Parts.{id_text}
use Rattle.cedar_store_parts.specs.declared.policy_id.Effect.{Effect}
use Rattle.cedar_store_policies.specs.Policies.{policy_of}
use Rattle.cedar_store_policies.specs.declared.policy.Policy.{Policy}
use Rattle.cedar_evaluator_model.specs.Members as members
use Rattle.cedar_gate_sessions.specs.declared.kinds.Verdict.{Verdict}
use Rattle.cedar_gate_sessions.specs.declared.bounds.Bounds.{Bounds}
use Rattle.cedar_gate_sessions.specs.Verdicts.{is_satisfied, is_open, has_effect}

-- the bounds in the model
abbrev pub bounds_of : Bounds → members.Bounds
bounds_of b = record { must = map id_text b.must.items; may = map id_text b.may.items }

-- whether a policy has this effect and is satisfied, or is residual
abbrev pub satisfied_of : Effect → Policy × Verdict → Bool
satisfied_of e p = has_effect e (policy_of p.0).effect && is_satisfied p.1

abbrev pub open_of : Effect → Policy × Verdict → Bool
open_of e p = has_effect e (policy_of p.0).effect && is_open p.1

-- the id of a policy that is picked
abbrev pub if_picked : (model.Effect → Verdict → Bool) → Policy × Verdict → Option Text
if_picked picks p = if picks (policy_of p.0).effect p.1 then Some (policy_of p.0).id else None

-- the ids of those that are picked, in their order
abbrev pub picked_ids : (model.Effect → Verdict → Bool) → List (Policy × Verdict) → List Text
picked_ids picks ps = filter_map (if_picked picks) ps
