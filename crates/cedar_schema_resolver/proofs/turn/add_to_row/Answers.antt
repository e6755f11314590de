use Rattle.std.proofs.Common.{[], ◌∷◌, ◌++◌, sym, ap, ◌∙◌}
use Rattle.cedar_schema_resolver.proofs.Searching.{targets_at}
use Rattle.cedar_schema_resolver.proofs.Turning.{row_added}
use Rattle.cedar_schema_resolver.proofs.turn.add_to_row.Goals as goal

pub returns-clause-added : goal.returns-clause-added
returns-clause-added c =
    row_added c.args.rows.now.items c.args.at c.args.node c.push.new.self c.requires
    (c.in_ok-push.ensures.items ∙ ap (λ ns. ns ++ c.args.node ∷ []) (ap (λ r. r.items) c.index_mut.ensures.value ∙ sym (targets_at c.args.rows.now.items c.args.at c.index_mut.result.now c.requires)))
