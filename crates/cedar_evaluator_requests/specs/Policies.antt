-- What is left of policies, as policies.
-- Rule: partial responses (docs/RULES.md).
use Rattle.std.specs.Prelude.{◌≡◌, ◌++◌, List, map, find, Option, option_map, Result, IfOk}
use Rattle.std.specs.Str.{bytes_eq}
use Rattle.std.specs.declared.alloc.AllocError.{AllocError}
use Rattle.std.specs.declared.alloc.Global.{Global}
use Rattle.std.specs.declared.rc.Rc.{Rc}
use Rattle.cedar_expr_trees.specs.declared.expr.Expr.{Expr}
use Rattle.cedar_store_model.specs.Policy as model
use Rattle.cedar_store_parts.specs.Parts.{effect_of, id_text}
use Rattle.cedar_store_parts.specs.declared.annotation.Annotations.{Annotations}
use Rattle.cedar_store_parts.specs.declared.policy_id.Effect.{Effect}
use Rattle.cedar_store_parts.specs.declared.policy_id.PolicyID.{PolicyID}
use Rattle.cedar_store_policies.specs.Policies.{policy_of}
use Rattle.cedar_store_policies.specs.declared.policy.Policy.{Policy}
use Rattle.cedar_evaluator_model.specs.Members.{of_true, of_false, of_residual}
use Rattle.cedar_evaluator_requests.specs.Groups.{noted_seen, false_seen, residual_seen}
use Rattle.cedar_evaluator_requests.specs.declared.groups.ErrorState.{ErrorState}

-- the policies of a group of this effect
abbrev pub true_policies : Effect → List (PolicyID × Rc Annotations Global) → List model.Policy
true_policies e es = of_true (effect_of e) (map noted_seen es)

abbrev pub false_policies : Effect → List (PolicyID × (ErrorState × Rc Annotations Global)) → List model.Policy
false_policies e es = of_false (effect_of e) (map false_seen es)

abbrev pub residual_policies : Effect → List (PolicyID × (Rc (Expr Unit) Global × Rc Annotations Global)) → List model.Policy
residual_policies e es = of_residual (effect_of e) (map residual_seen es)

-- those of all groups of this effect, in the order in which they are listed
abbrev pub listed_policies : Effect → List (PolicyID × Rc Annotations Global) → List (PolicyID × (ErrorState × Rc Annotations Global)) → List (PolicyID × (Rc (Expr Unit) Global × Rc Annotations Global)) → List model.Policy
listed_policies e ts fs rs = true_policies e ts ++ (false_policies e fs ++ residual_policies e rs)

-- and in the order in which they are searched
abbrev pub searched_policies : Effect → List (PolicyID × (Rc (Expr Unit) Global × Rc Annotations Global)) → List (PolicyID × Rc Annotations Global) → List (PolicyID × (ErrorState × Rc Annotations Global)) → List model.Policy
searched_policies e rs ts fs = residual_policies e rs ++ (true_policies e ts ++ false_policies e fs)

-- These policies are appended.
abbrev pub Appends : List Policy → List Policy → List model.Policy → Type 0
Appends old new more = map policy_of new ≡ map policy_of old ++ more

-- The first of these policies that has this id is found, but when out of memory.
abbrev pub Finds : PolicyID → List model.Policy → Result (Option Policy) AllocError → Type 0
Finds i ps r = IfOk r (λ o. option_map policy_of o ≡ find (λ p. bytes_eq (id_text i) p.id) ps)
