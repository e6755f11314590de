use Rattle.std.proofs.Common.{map, ap, ◌∙◌}
use Rattle.std.specs.Prelude.{is_some}
use Rattle.std.specs.List.{list_all}
use Rattle.cedar_expr_model.specs.ValueParts.{known_value}
use Rattle.cedar_expr_values.specs.Values.{made}
use Rattle.cedar_expr_partial.specs.Parts.{part_of}
use Rattle.cedar_expr_trees.specs.Trees.{tree_of}
use Rattle.cedar_expr_partial.proofs.Parted.{into_values, into_expressions}
use Rattle.cedar_expr_partial.proofs.partial_value.split.Goals as goal

pub returns-then-are_values : goal.returns-then-are_values
returns-then-are_values g c =
    let seen = g.X.ExtensionValue.seen in
    into_values seen c.args.items.items _ c.are_values.result (c.are_values.ensures ∙ ap (list_all (λ p. is_some (known_value (part_of g.X.ExtensionValue.seen p)))) c.as_slice.ensures.value) c.if-are_values.true (ap (map (made seen)) c.into_iter.ensures.rest ∙ c.in_ok-values.ensures)

pub returns : goal.returns
returns g c =
    into_expressions g.X.ExtensionValue.seen c.args.items.items _ c.are_values.result (c.are_values.ensures ∙ ap (list_all (λ p. is_some (known_value (part_of g.X.ExtensionValue.seen p)))) c.as_slice.ensures.value) c.if-are_values.false (ap (map tree_of) c.into_iter-2.ensures.rest ∙ c.in_ok-exprs.ensures)
