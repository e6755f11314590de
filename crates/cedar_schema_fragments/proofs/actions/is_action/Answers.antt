use Rattle.std.proofs.Common.{sym, ap, ◌∙◌}
use Rattle.std.specs.Rc.{rc_str_bytes}
use Rattle.cedar_expr_model.specs.Name.{is_reserved}
use Rattle.cedar_expr_names.specs.Views.{name_of}
use Rattle.cedar_schema_fragments.proofs.Parents.{no_reserved_action}
use Rattle.cedar_schema_fragments.proofs.actions.is_action.Goals as goal

pub returns-in-Err : goal.returns-in-Err
returns-in-Err c = no_reserved_action (record { kind = name_of c.args.name.now; id = rc_str_bytes c.args.id.now }) (ap is_reserved (sym c.in_ok-clone.ensures.cases.0) ∙ c.in-Err.ensures.reserved) c.args.all_defs.now
