use Rattle.std.proofs.Common.{◌≡◌, find, drop}
use Rattle.std.specs.Rc.{rc_str_bytes}
use Rattle.cedar_expr_names.specs.Views.{name_of}
use Rattle.cedar_schema_decl.specs.Defined.{defined_of, is_defined_action}
use Rattle.cedar_schema_fragments.proofs.actions.first_action.Given as goal

abbrev pub invariant-loop-name : goal.invariant-loop-name
invariant-loop-name l =
    find (λ n. is_defined_action (defined_of l.all_defs) (record { kind = name_of n; id = rc_str_bytes l.id })) l.names
    ≡ find (λ n. is_defined_action (defined_of l.all_defs) (record { kind = name_of n; id = rc_str_bytes l.id })) (drop l.name-index l.names)
