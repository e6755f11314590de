-- The roots of a request.
-- Rule: the slice (docs/RULES.md).
use Rattle.std.specs.Prelude.{◌++◌, [], List, option_to_list}
use Rattle.std.specs.Option.{option_map_or}
use Rattle.cedar_expr_model.specs.Uid.{Uid}
use Rattle.cedar_evaluator_model.specs.Known.{known_entry, known_context}
use Rattle.cedar_evaluator_model.specs.Response.{PartialRequest}
use Rattle.cedar_evaluator_model.specs.Scope.{Context}
use Rattle.cedar_typechecker_model.specs.Slice.{mentioned}

-- what a context mentions, where it is known
abbrev pub mentioned_by_context : Context → List Uid
mentioned_by_context c = option_map_or mentioned (known_context c) []

-- principal, resource and what the context mentions, as far as they are known
abbrev pub known_roots : PartialRequest → List Uid
known_roots r = option_to_list (known_entry r.principal) ++ (option_to_list (known_entry r.resource) ++ mentioned_by_context r.context)
