use Rattle.cedar_expr_names.specs.Views.{name_of}
use Rattle.cedar_schema_decl.specs.Requalified.{under_name}
use Rattle.cedar_schema_decl.specs.Trees.{record_rows, attribute_rows}
use Rattle.cedar_schema_decl.proofs.Gathered.{Gathers}
use Rattle.cedar_schema_types.specs.AttributeLists.{declared_pairs}
use Rattle.cedar_schema_resolver.specs.Meanings.{setting_of}
use Rattle.cedar_schema_resolver.specs.Outcomes.{attribute_outcome}
use Rattle.cedar_schema_resolver.proofs.resolver.+resolver.Given as goal

abbrev pub invariant-convert_attributes-loop-name : goal.invariant-convert_attributes-loop-name
invariant-convert_attributes-loop-name l =
    (goal.iterator-convert_attributes-loop-name).can_next l.name-iterator ×
    (goal.iterator-convert_attributes-loop-name).is_finite l.name-iterator ×
    Gathers (under_name (attribute_outcome (setting_of l.resolver))) (record_rows name_of l.fields) (declared_pairs l.made.items) (attribute_rows name_of l.name-iterator)
