use Rattle.cedar_schema_model.proofs.Written.{written_asked}
use Rattle.cedar_schema_model.proofs.admission_laws.written_values_are_asked.Goals as goal

pub returns : goal.returns
returns c = λ x m t fair. written_asked x fair m t
