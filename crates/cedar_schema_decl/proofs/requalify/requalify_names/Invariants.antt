use Rattle.std.proofs.Common.{map, drop}
use Rattle.cedar_schema_decl.specs.Conditional.{kind_of}
use Rattle.cedar_schema_decl.proofs.Gathered.{Gathers}
use Rattle.cedar_schema_decl.proofs.requalify.requalify_names.Given as goal

abbrev pub invariant-loop-name : goal.invariant-loop-name
invariant-loop-name g l =
    Gathers (g.R.Requalify.renames l.names (kind_of l.kind)) (map g.R.Requalify.before l.written) (map g.R.Requalify.after l.made.items) (map g.R.Requalify.before (drop l.name-index l.written))
