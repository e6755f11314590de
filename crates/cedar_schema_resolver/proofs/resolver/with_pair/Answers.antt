use Rattle.std.proofs.Common.{[], ◌∷◌, ◌++◌, map, ap, ◌∙◌}
use Rattle.std.proofs.lemmas.List.{map-append}
use Rattle.cedar_expr_values.specs.Fields.{by_text}
use Rattle.cedar_schema_resolver.proofs.resolver.with_pair.Goals as goal

pub returns : goal.returns
returns g c =
    ap (map by_text) c.in_ok-push.ensures.items
    ∙ map-append by_text c.args.pairs.items ((c.in_ok-copy.copy, c.args.it) ∷ [])
    ∙ ap (λ n. map by_text c.args.pairs.items ++ (n, c.args.it) ∷ []) c.in_ok-copy.ensures.cases
