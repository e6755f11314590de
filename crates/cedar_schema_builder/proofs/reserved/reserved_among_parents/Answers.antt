use Rattle.std.proofs.Common.{find, ap, ◌∙◌}
use Rattle.cedar_expr_model.specs.Name.{Text, is_reserved}
use Rattle.cedar_schema_decl.specs.Conditional.{Conditional, conditional_of}
use Rattle.cedar_schema_fragments.specs.Actions.{parent_form}
use Rattle.cedar_schema_builder.proofs.Finding.{one_seen}
use Rattle.cedar_schema_builder.proofs.reserved.reserved_among_parents.Goals as goal

pub returns : goal.returns
returns c = c.first_among.ensures ∙ ap (find is_reserved) (one_seen (λ (p : Conditional × Text). p.0.written) (parent_form conditional_of) c.args.parents.now)
