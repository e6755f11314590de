-- The ids of policies by what is left of them.
use Rattle.std.proofs.Common.{◌≡◌, List, [], ◌∷◌, map, refl, ap}
use Rattle.std.specs.Map.{keys_of}
use Rattle.std.specs.declared.alloc.Global.{Global}
use Rattle.std.specs.declared.rc.Rc.{Rc}
use Rattle.cedar_expr_trees.specs.declared.expr.Expr.{Expr}
use Rattle.cedar_store_model.specs.Policy.{Effect}
use Rattle.cedar_store_parts.specs.Parts.{id_text}
use Rattle.cedar_store_parts.specs.declared.policy_id.PolicyID.{PolicyID}
use Rattle.cedar_store_parts.specs.declared.annotation.Annotations.{Annotations}
use Rattle.cedar_evaluator_model.specs.Members.{of_true, of_residual}
use Rattle.cedar_evaluator_requests.specs.Groups.{noted_seen, residual_seen}

-- of satisfied ones
pub true_ids : (e : Effect) (es : List (PolicyID × Rc Annotations Global)) → map (λ p. p.id) (of_true e (map noted_seen es)) ≡ map id_text (keys_of es)
true_ids e [] = refl
true_ids e (x ∷ es) = ap (λ ts. id_text x.0 ∷ ts) (true_ids e es)

-- of residual ones
pub residual_ids : (e : Effect) (es : List (PolicyID × (Rc (Expr Unit) Global × Rc Annotations Global))) → map (λ n. (n.0).id) (map residual_seen es) ≡ map (λ p. p.id) (of_residual e (map residual_seen es))
residual_ids e [] = refl
residual_ids e (x ∷ es) = ap (λ ts. id_text x.0 ∷ ts) (residual_ids e es)
