use Rattle.cedar_schema_model.specs.Resolved.{schema_of}
use Rattle.cedar_gate_model.proofs.Faults.{conforms_alike}
use Rattle.cedar_gate_model.proofs.conforming_laws.what_is_kept_conforms_alike.Goals as goal

pub returns-clause-alike : goal.returns-clause-alike
returns-clause-alike c = let l = c.declarations_are_kept.ensures in conforms_alike l.types l.actions l.found_types l.found_actions

pub returns-clause-declared : goal.returns-clause-declared
returns-clause-declared c = λ d k h. let l = c.declarations_are_kept.ensures in conforms_alike l.types l.actions l.found_types l.found_actions (schema_of d) k h (c.seen_schemas_answer_alike.ensures.descend d)
