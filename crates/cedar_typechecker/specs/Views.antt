-- What a typechecker and a validator stand on.
-- Rule: typing; the scope rules (docs/RULES.md).
use Rattle.std.specs.Prelude.{List, Bool}
use Rattle.cedar_expr_model.specs.Table.{Table}
use Rattle.cedar_schema_joins.specs.Modes.{mode_of}
use Rattle.cedar_schema_model.specs.Environment.{Environment}
use Rattle.cedar_schema_model.specs.Schema.{Schema}
use Rattle.cedar_schema_model.specs.Types.{Mode}
use Rattle.cedar_store_policies.specs.Templates.{template_of}
use Rattle.cedar_store_policies.specs.declared.template.Template.{Template}
use Rattle.cedar_typechecker.specs.declared.typechecker.Typechecker.{Typechecker}
use Rattle.cedar_typechecker.specs.declared.validator.Validator.{Validator}
use Rattle.cedar_typechecker_model.specs.Rules.{Setting}
use Rattle.cedar_typechecker_model.specs.Verdicts.{in_mode, passes_in, is_warned}
use Rattle.cedar_typechecker_policies.specs.Iterated.{environments_left, schema_checked, table_checked}
use Rattle.cedar_typechecker_policies.specs.declared.checks.RequestEnvChecks.{RequestEnvChecks}
use Rattle.cedar_typechecker.specs.SchemaViews.{schema_of, table_seen}
use Rattle.cedar_typechecker.specs.declared.schema_and_functions.SchemaAndFunctions.{SchemaAndFunctions}

abbrev pub schema_typed_by : {B : _} {F : _} {g : _} → Typechecker B F g → Schema
schema_typed_by c = schema_of c.asked

abbrev pub table_typed_by : {B : _} {F : _} {g : _} → Typechecker B F g → Table
table_typed_by c = table_seen c.asked

abbrev pub mode_typed_in : {B : _} {F : _} {g : _} → Typechecker B F g → Mode
mode_typed_in c = mode_of c.mode

abbrev pub schema_validated_by : {B : _} {F : _} {g : _} → Validator B F g → Schema
schema_validated_by v = schema_of v.asked

abbrev pub table_validated_by : {B : _} {F : _} {g : _} → Validator B F g → Table
table_validated_by v = table_seen v.asked

-- the environments whose checks are still to come
abbrev pub checks_left : {B : _} {F : _} {g : _} → RequestEnvChecks (SchemaAndFunctions B F g) → List Environment
checks_left i = environments_left schema_of table_seen i

-- by what the checks are
abbrev pub schema_checked_by : {B : _} {F : _} {g : _} → RequestEnvChecks (SchemaAndFunctions B F g) → Schema
schema_checked_by i = schema_checked schema_of i

abbrev pub table_checked_by : {B : _} {F : _} {g : _} → RequestEnvChecks (SchemaAndFunctions B F g) → Table
table_checked_by i = table_checked table_seen i

-- what a policy is typed in, in this environment
abbrev pub typed_in : {B : _} {F : _} {g : _} → Typechecker B F g → Environment → Setting
typed_in c e = in_mode (mode_typed_in c) (schema_typed_by c) (table_typed_by c) e

-- whether the template passes, and whether it is warned of
abbrev pub passes_by : {B : _} {F : _} {g : _} → Typechecker B F g → Template → Bool
passes_by c t = passes_in (mode_typed_in c) (schema_typed_by c) (table_typed_by c) (template_of t)

abbrev pub is_warned_by : {B : _} {F : _} {g : _} → Typechecker B F g → Template → Bool
is_warned_by c t = is_warned (mode_typed_in c) (schema_typed_by c) (table_typed_by c) (template_of t)
