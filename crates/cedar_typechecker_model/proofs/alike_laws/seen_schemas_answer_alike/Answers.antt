use Rattle.cedar_schema_model.specs.Declarations.{Declarations}
use Rattle.cedar_schema_model.specs.Resolved.{schema_of}
use Rattle.cedar_schema_model.proofs.Decls.Named.{ancestors_named, action_ancestors_named}
use Rattle.cedar_typechecker_model.specs.Alike.{DescendsToDeclared}
use Rattle.cedar_typechecker_model.proofs.Seen.Above.{kept_closed}
use Rattle.cedar_typechecker_model.proofs.Seen.Answers.{seen_alike}
use Rattle.cedar_typechecker_model.proofs.alike_laws.seen_schemas_answer_alike.Goals as goal

pub returns-clause-closed : goal.returns-clause-closed
returns-clause-closed c = kept_closed

pub returns-clause-alike : goal.returns-clause-alike
returns-clause-alike c = let l = c.declarations_are_kept.ensures in seen_alike l.types l.actions l.found_types

descend : (d : Declarations) → DescendsToDeclared (schema_of d)
descend d = record { types = ancestors_named d; actions = action_ancestors_named d }

pub returns-clause-descend : goal.returns-clause-descend
returns-clause-descend c = descend

pub returns-clause-declared : goal.returns-clause-declared
returns-clause-declared c = λ d k h. let l = c.declarations_are_kept.ensures in seen_alike l.types l.actions l.found_types (schema_of d) k h (descend d)
