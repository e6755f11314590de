use Rattle.cedar_schema_decl.proofs.Told.{types_declared, refused_undeclared}
use Rattle.cedar_schema_decl.proofs.laws.resolved_types_are_declared.Goals as goal

pub returns-clause-types : goal.returns-clause-types
returns-clause-types c = λ s d has space t commons. types_declared s d has space commons t

pub returns-clause-refused : goal.returns-clause-refused
returns-clause-refused c = refused_undeclared
