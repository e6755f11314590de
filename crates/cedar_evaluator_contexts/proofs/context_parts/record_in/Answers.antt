use Rattle.std.proofs.Common.{sym, ap, ◌∙◌}
use Rattle.cedar_expr_values.specs.Extensions.{extension_of}
use Rattle.cedar_expr_values.specs.Values.{made_kind}
use Rattle.cedar_evaluator_contexts.specs.ContextParts.{fields_in_value}
use Rattle.cedar_evaluator_contexts.proofs.context_parts.record_in.Goals as goal

pub returns-in-Record : goal.returns-in-Record
returns-in-Record c = ap fields_in_value (sym (sym c.value_kind.ensures.value ∙ ap (made_kind extension_of) c.in-Record.is))
