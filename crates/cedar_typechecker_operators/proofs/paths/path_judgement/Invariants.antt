use Rattle.std.proofs.Common.{map, drop}
use Rattle.std.specs.Rc.{rc_str_bytes}
use Rattle.cedar_expr_trees.specs.Trees.{tree_of}
use Rattle.cedar_schema_types.specs.Types.{type_of}
use Rattle.cedar_typechecker_environments.specs.Settings.{setting_of}
use Rattle.cedar_typechecker_model.specs.Typing.{path_judged}
use Rattle.cedar_typechecker_operators.proofs.Ways.{SoFar}
use Rattle.cedar_typechecker_operators.proofs.paths.path_judgement.Given as goal

abbrev pub invariant-loop-next : goal.invariant-loop-next
invariant-loop-next g l =
    let s = setting_of g.S.DeclaredAttributes.schema g.S.TypingSchema.table l.world in
    SoFar s (path_judged s (rc_str_bytes l.attr) (map rc_str_bytes l.further) (tree_of l.of.value) (type_of l.ty)) l.way (rc_str_bytes l.name) (map rc_str_bytes (drop l.next-index l.further))
