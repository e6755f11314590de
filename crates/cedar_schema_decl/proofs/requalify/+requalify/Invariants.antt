use Rattle.cedar_schema_decl.specs.Requalified.{requalified_attribute, under_name}
use Rattle.cedar_schema_decl.specs.Trees.{record_rows, attribute_rows}
use Rattle.cedar_schema_decl.proofs.Gathered.{Gathers}
use Rattle.cedar_schema_decl.proofs.requalify.+requalify.Given as goal

abbrev pub invariant-requalify_attributes-loop-name : goal.invariant-requalify_attributes-loop-name
invariant-requalify_attributes-loop-name g l =
    Gathers (under_name (requalified_attribute (g.R.Requalify.renames l.names))) (record_rows g.R.Requalify.before l.fields) (attribute_rows g.R.Requalify.after l.made.items) (attribute_rows g.R.Requalify.before l.name-iterator)
