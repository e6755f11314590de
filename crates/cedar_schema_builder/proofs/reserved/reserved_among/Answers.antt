use Rattle.std.proofs.Common.{find, ap, ◌∙◌}
use Rattle.cedar_expr_model.specs.Name.{is_reserved}
use Rattle.cedar_schema_decl.specs.Conditional.{Conditional, conditional_of}
use Rattle.cedar_schema_builder.proofs.Finding.{one_seen}
use Rattle.cedar_schema_builder.proofs.reserved.reserved_among.Goals as goal

pub returns : goal.returns
returns c = c.first_among.ensures ∙ ap (find is_reserved) (one_seen (λ (k : Conditional). k.written) conditional_of c.args.names.now)
