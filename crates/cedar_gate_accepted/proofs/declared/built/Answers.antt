use Rattle.cedar_gate_accepted.proofs.Building.{complete_where}
use Rattle.cedar_gate_fragments.specs.Written.{declared_by}
use Rattle.cedar_schema_builder.specs.Extensions.{types_given}
use Rattle.cedar_schema_built.specs.Views.{schema_kept}
use Rattle.cedar_gate_accepted.proofs.declared.built.Goals as goal

pub returns-in-Ok-clause-complete : goal.returns-in-Ok-clause-complete
returns-in-Ok-clause-complete g c =
    complete_where c.declarations_are_decided.ensures.faults c.external_declarations_are_refused.ensures.complete (types_given c.args.table.now) c.in_ok-fragments.fragments.items (declared_by c.args.fragments.now) (schema_kept c.in-Ok.schema)
    c.in-Ok.ensures.built c.in_ok-fragments.ensures.written

pub returns-in-Err-clause-refused : goal.returns-in-Err-clause-refused
returns-in-Err-clause-refused g c = λ f k. (c.in-Err.ensures.refused f k).each (declared_by c.args.fragments.now) c.in_ok-fragments.ensures.written
