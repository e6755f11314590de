-- What the groups of a partial response are in the model.
-- Rule: partial responses (docs/RULES.md).
use Rattle.std.specs.Prelude.{Bool, List, []}
use Rattle.std.specs.Str.{bytes_eq}
use Rattle.std.specs.declared.alloc.Global.{Global}
use Rattle.std.specs.declared.rc.Rc.{Rc}
use Rattle.indexmap.specs.IndexMap.{insert_all}
use Rattle.cedar_expr_model.specs.Tree.{Tree}
use Rattle.cedar_expr_trees.specs.Trees.{tree_of}
use Rattle.cedar_expr_trees.specs.declared.expr.Expr.{Expr}
use Rattle.cedar_store_parts.specs.Parts.{id_text, annotations_of}
use Rattle.cedar_store_parts.specs.declared.policy_id.PolicyID.{PolicyID}
use Rattle.cedar_store_parts.specs.declared.annotation.Annotations.{Annotations}
use Rattle.cedar_evaluator_model.specs.Response as model
use Rattle.cedar_evaluator_model.specs.Response.{Noted, no_error, with_error}
use Rattle.cedar_evaluator_requests.specs.declared.groups.ErrorState.{ErrorState}
use Rattle.cedar_evaluator_requests.specs.declared.groups.ErrorState.TheVariants.{NoError, Error}

-- whether a policy erred
abbrev pub state_of : ErrorState → model.ErrorState
state_of NoError = no_error
state_of Error = with_error

-- what is kept of a policy, and its entry in each group
abbrev pub noted_as : PolicyID → Annotations → Noted
noted_as i a = record { id = id_text i; annotations = annotations_of a }

abbrev pub noted_seen : PolicyID × Rc Annotations Global → Noted
noted_seen e = noted_as e.0 e.1.value

abbrev pub false_seen : PolicyID × (ErrorState × Rc Annotations Global) → Noted × model.ErrorState
false_seen e = (noted_as e.0 (e.1.1).value, state_of e.1.0)

abbrev pub residual_seen : PolicyID × (Rc (Expr Unit) Global × Rc Annotations Global) → Noted × Tree
residual_seen e = (noted_as e.0 (e.1.1).value, tree_of (e.1.0).value)

-- two ids of one text
abbrev pub same_id : PolicyID → PolicyID → Bool
same_id i j = bytes_eq (id_text i) (id_text j)

-- Each id once: at its first place, with what stands last under it.
abbrev pub each_once : {V : Type 0} → List (PolicyID × V) → List (PolicyID × V)
each_once es = insert_all same_id [] es
