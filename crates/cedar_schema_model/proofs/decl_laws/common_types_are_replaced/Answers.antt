use Rattle.cedar_schema_model.proofs.Decls.Rising.{resolved_rises}
use Rattle.cedar_schema_model.proofs.Decls.Resolved.{defined, no_more, contexts}
use Rattle.cedar_schema_model.proofs.decl_laws.common_types_are_replaced.Goals as goal

pub returns-clause-defined : goal.returns-clause-defined
returns-clause-defined c = defined

pub returns-clause-once_more : goal.returns-clause-once_more
returns-clause-once_more c = no_more

pub returns-clause-contexts : goal.returns-clause-contexts
returns-clause-contexts c = contexts

pub returns-clause-rising : goal.returns-clause-rising
returns-clause-rising c = resolved_rises
