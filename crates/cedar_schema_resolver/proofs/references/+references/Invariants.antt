use Rattle.std.proofs.Common.{◌≡◌, ◌++◌, map}
use Rattle.cedar_expr_names.specs.Views.{name_of}
use Rattle.cedar_schema_decl.specs.Defined.{defined_of}
use Rattle.cedar_schema_decl.specs.Trees.{record_rows, attribute_rows}
use Rattle.cedar_schema_resolver.proofs.Using.{rows_use}
use Rattle.cedar_schema_resolver.proofs.references.+references.Given as goal

abbrev pub invariant-add_record-loop-attribute : goal.invariant-add_record-loop-attribute
invariant-add_record-loop-attribute l =
    (goal.iterator-add_record-loop-attribute).can_next l.attribute-iterator ×
    (goal.iterator-add_record-loop-attribute).is_finite l.attribute-iterator ×
    (map name_of l.found.items ++ rows_use (defined_of l.all_defs) (attribute_rows name_of l.attribute-iterator) ≡ map name_of l.fn.used.items ++ rows_use (defined_of l.all_defs) (record_rows name_of l.fields))
