use Rattle.cedar_schema_model.proofs.Types.Known.{union_knows, union_knows_all, larger_knows_less}
use Rattle.cedar_schema_model.proofs.type_laws.unions_know_what_all_declare.Goals as goal

pub returns-clause-each : goal.returns-clause-each
returns-clause-each c = union_knows

pub returns-clause-all : goal.returns-clause-all
returns-clause-all c = union_knows_all

pub returns-clause-larger : goal.returns-clause-larger
returns-clause-larger c = larger_knows_less
