-- What comes of a check of names.
-- Rule: well-formed declarations (docs/RULES.md).
use Rattle.std.specs.Prelude.{List, Bool, find}
use Rattle.std.specs.Option.{option_map_or}
use Rattle.std.specs.Str.{bytes_eq}
use Rattle.std.specs.declared.result.Result.{Result}
use Rattle.std.specs.declared.result.Result.TheVariants.{Ok, Err}
use Rattle.cedar_expr_model.specs.Name.{Name, is_reserved}
use Rattle.cedar_expr_leaves.specs.declared.conditional_name.ConditionalName.{ConditionalName}
use Rattle.cedar_schema_model.specs.Reference.{action_word}
use Rattle.cedar_schema_fragments.specs.Refusals.{Refusal, reserved_type}
use Rattle.cedar_schema_fragments.specs.declared.namespace_def.ValidatorSchemaFragment.{ValidatorSchemaFragment}
use Rattle.cedar_schema_builder.specs.WrittenNames.{names_in}

-- the first reserved name is refused
abbrev pub reserved_checked : List (ValidatorSchemaFragment ConditionalName ConditionalName) → Result (Unit {0}) Refusal
reserved_checked fs = option_map_or (λ n. Err (reserved_type n)) (find is_reserved (names_in fs)) (Ok tt)

-- the last name of a type is that of the types of actions
abbrev pub is_action_word : Name → Bool
is_action_word n = bytes_eq action_word n.base
