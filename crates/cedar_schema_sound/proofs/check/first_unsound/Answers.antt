use Rattle.std.proofs.Common.{option_map, sym, ap, ◌∙◌}
use Rattle.std.specs.Option.{option_or}
use Rattle.cedar_expr_model.specs.Lists.{first_found}
use Rattle.cedar_schema_built.specs.Views.{schema_kept}
use Rattle.cedar_schema_model.specs.Unsound.{action_fault}
use Rattle.cedar_schema_sound.specs.Views.{fault_seen, names_known}
use Rattle.cedar_schema_sound.proofs.Free.{none_is_sound}
use Rattle.cedar_schema_sound.proofs.check.first_unsound.Goals as goal

pub returns-clause-sound : goal.returns-clause-sound
returns-clause-sound c =
    let x = names_known c.args.extension_types.now in
    let k = schema_kept c.args.schema.now in
    none_is_sound x c.args.schema.now c.first_unsound_action.result
    (c.first_unsound_action.ensures ∙ ap (λ o. option_or o (first_found (action_fault x k) k.actions)) (ap (option_map fault_seen) (sym c.in_default.is) ∙ c.first_unsound_type.ensures))
