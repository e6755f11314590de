use Rattle.cedar_refusals.proofs.schema.schema_of.Goals as goal

pub returns : goal.returns
returns g c = c.built_schemas_answer_alike.ensures.closed _ _ _ c.in_ok-schema.ensures.formed
