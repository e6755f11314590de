use Rattle.std.proofs.Common.{map, ap, ◌∙◌}
use Rattle.cedar_expr_names.specs.Views.{uid_of}
use Rattle.cedar_schema_model.specs.Kept.{KeptAction}
use Rattle.cedar_schema_entries.specs.Views.{action_seen}
use Rattle.cedar_schema_built.proofs.Putting.{of_keys, of_names}
use Rattle.cedar_schema_built.proofs.schema.ValidatorSchema.actions.Goals as goal

pub returns : goal.returns
returns c =
    ap (map uid_of) c.keys.ensures.rest
    ∙ of_keys uid_of c.args.self.now.action_ids.entries
    ∙ c.args.self.now.actions_named
    ∙ of_names action_seen (λ (a : KeptAction). a.uid) c.args.self.now.action_ids.entries
