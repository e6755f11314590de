use Rattle.std.proofs.Common.{◌≡◌, find, map}
use Rattle.cedar_expr_names.specs.Views.{uid_of}
use Rattle.cedar_schema_decl.specs.Defined.{defined_of}
use Rattle.cedar_schema_decl.specs.Shadowing.{action_shadows}
use Rattle.cedar_schema_decl.proofs.all_defs.AllDefs.first_shadowing_action.Given as goal

abbrev pub invariant-loop-uid : goal.invariant-loop-uid
invariant-loop-uid l = find (action_shadows (defined_of l.self)) (map uid_of l.uids.keys) ≡ find (action_shadows (defined_of l.self)) (map uid_of l.uid-iterator)
