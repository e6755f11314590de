-- What functions read of the JSON of an entity.
use Rattle.std.specs.Prelude.{ℕ, List, Option, Some, None, option_and_then, if◌then◌else◌}
use Rattle.cedar_expr_functions.specs.Tables.{table_of}
use Rattle.cedar_expr_functions.specs.declared.extensions.Extensions.{Extensions}
use Rattle.cedar_expr_model.specs.Made.{Made}
use Rattle.cedar_expr_model.specs.Table.{fails}
use Rattle.cedar_expr_model.specs.Uid.{Uid, uid_eq}
use Rattle.cedar_store_model.specs.World as world
use Rattle.cedar_evaluator_model.specs.Functions.{Functions}
use Rattle.cedar_evaluator_model.specs.Scope.{faults}
use Rattle.cedar_evaluator_restricted_exprs.specs.Answers.{AgreesWith}
use Rattle.cedar_gate_bundles.specs.Written.{entity_read_made}
use Rattle.cedar_gate_expressions.specs.Json.{json_read}

-- the functions of a table, where none of them gives a value
abbrev pub faulting : {B : _} {F : _} {g : _} → Extensions B F g → Functions
faulting t = record { table = table_of t (λ f vs. fails f); calls = λ f ms. faults f }

-- no function of the table gives a value
abbrev pub NeverGives : {B : _} {F : _} {g : _} → Extensions B F g → Type 0
NeverGives t = AgreesWith t (faulting t)

-- the entity that a text is, with its uid
abbrev pub text_read : Functions → List ℕ → Option (Uid × world.Entity Made)
text_read x text = option_and_then (entity_read_made x) (json_read text)

-- the entity, where it has this uid
abbrev pub with_uid : Uid → Uid × world.Entity Made → Option (world.Entity Made)
with_uid u e = if uid_eq e.0 u then Some e.1 else None

-- the entity of this uid that a text is
abbrev pub entity_in : Functions → Uid → List ℕ → Option (world.Entity Made)
entity_in x u text = option_and_then (with_uid u) (text_read x text)
