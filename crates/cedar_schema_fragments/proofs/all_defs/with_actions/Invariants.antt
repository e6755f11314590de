use Rattle.std.proofs.Common.{◌≡◌, map, drop}
use Rattle.cedar_expr_names.specs.Views.{uid_of}
use Rattle.cedar_schema_decl.specs.Defined.{defined_of, with_action}
use Rattle.cedar_schema_fragments.specs.Marked.{all_with, action_uids}
use Rattle.cedar_schema_fragments.proofs.all_defs.with_actions.Given as goal

abbrev pub invariant-loop-action : goal.invariant-loop-action
invariant-loop-action g l = all_with with_action (map (λ e. uid_of e.0) (drop l.action-index l.action-items)) (defined_of l.marked) ≡ all_with with_action (action_uids l.actions) (defined_of l.fn.all_defs)
