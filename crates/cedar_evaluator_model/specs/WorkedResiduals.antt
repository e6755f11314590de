-- The values of the worked example of what residuals keep.
-- Rule: partial responses; reauthorizing; completions (docs/RULES.md).
use Rattle.std.specs.Prelude.{[], ◌∷◌, codes, true, Some, if◌then◌else◌}
use Rattle.cedar_expr_model.specs.Uid.{Uid, uid_eq}
use Rattle.cedar_expr_model.specs.Value.{V, entity, truth_value}
use Rattle.cedar_expr_model.specs.Tree.{Tree, bool_core, lit, unknown, either, get_attr}
use Rattle.cedar_expr_model.specs.Substitution.{Bindings}
use Rattle.cedar_expr_model.specs.ValueParts.{known}
use Rattle.cedar_store_model.specs.World.{World, Entity, Found, held, missing, not_loaded}
use Rattle.cedar_store_model.specs.Policy.{Policy, permit}
use Rattle.cedar_evaluator_model.specs.Scope.{Scope}
use Rattle.cedar_evaluator_model.specs.Response.{Response, response_of}
use Rattle.cedar_evaluator_model.specs.Members.{all_residuals}
use Rattle.cedar_evaluator_model.specs.Reauthorize.{resumed}
use Rattle.cedar_evaluator_model.specs.ReauthorizeLaws.{Step}
use Rattle.cedar_evaluator_model.specs.Worked.{user_b, made_truth, scope}
use Rattle.cedar_evaluator_model.specs.WorkedCompletions.{completed, empty_table}
use Rattle.cedar_evaluator_model.specs.WorkedResponses.{policy, no_bound, bound}

-- a store of one entity, and none elsewhere
abbrev pub one_found : {A : Type 0} → Found A → Uid → Found A
one_found f u = if uid_eq u user_b then f else missing

-- `User::"b"` isn't loaded, and there are no functions
abbrev pub one_open : Scope
one_open = record scope { table = empty_table; store = one_found not_loaded }

-- permits where the unknown truth value `u` is true or `User::"b"` is ok
abbrev pub unknown_truth : Tree
unknown_truth = unknown (codes "u") (Some bool_core)

abbrev pub ok_policy : Policy
ok_policy = policy (codes "p") permit (Some (either unknown_truth (get_attr (lit (entity user_b)) (codes "ok"))))

abbrev pub ok_response : Response
ok_response = response_of one_open 16 (ok_policy ∷ [])

-- a world where `u` is true, and `User::"b"` is ok
abbrev pub ok_entity : Entity V
ok_entity = record { attributes = (codes "ok", known (truth_value true)) ∷ []; tags = []; ancestors = [] }

abbrev pub ok_world : World
ok_world = record completed { table = empty_table; store = one_found (held ok_entity) }

-- the value of `u` in it
abbrev pub u_is_true : Bindings
u_is_true = bound (codes "u") (made_truth true) no_bound

-- reauthorizing with it
abbrev pub ok_step : Step
ok_step = record { scope = one_open; depth = 16; values = u_is_true }

-- the response that it makes
abbrev pub ok_again : Response
ok_again = response_of (resumed one_open u_is_true ok_response.request) 16 (all_residuals ok_response)
