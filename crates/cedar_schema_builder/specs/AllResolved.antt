-- What stands in the place of fragments once their names are resolved.
-- Rule: references (docs/RULES.md).
use Rattle.std.specs.Prelude.{List, map}
use Rattle.std.specs.declared.result.Result.{Result}
use Rattle.cedar_expr_model.specs.Name.{Text, Name}
use Rattle.cedar_expr_leaves.specs.declared.conditional_name.ConditionalName.{ConditionalName}
use Rattle.cedar_schema_decl.specs.Conditional.{conditional_of}
use Rattle.cedar_schema_decl.specs.Defined.{Defined}
use Rattle.cedar_schema_decl.specs.Requalified.{each}
use Rattle.cedar_schema_fragments.specs.Namespaces.{NamespaceForm, fragment_form}
use Rattle.cedar_schema_fragments.specs.Refusals.{Refusal}
use Rattle.cedar_schema_fragments.specs.Resolved.{namespace_resolved}
use Rattle.cedar_schema_fragments.specs.declared.namespace_def.ValidatorSchemaFragment.{ValidatorSchemaFragment}

-- fragment after fragment, each namespace by namespace; the first refusal is that of all
abbrev pub all_resolved : Defined → List (ValidatorSchemaFragment ConditionalName ConditionalName) → Result (List (List (NamespaceForm Name (Name × Text)))) Refusal
all_resolved s fs = each (each (namespace_resolved s)) (map (fragment_form conditional_of conditional_of) fs)
