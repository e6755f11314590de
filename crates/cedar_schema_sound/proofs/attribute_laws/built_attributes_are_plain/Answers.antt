use Rattle.std.proofs.Common.{sym, ◌∙◌}
use Rattle.cedar_schema_model.specs.Resolved.{schema_of}
use Rattle.cedar_schema_sound.proofs.Plain.{schema_plain}
use Rattle.cedar_schema_sound.proofs.Same.{same_declared}
use Rattle.cedar_schema_sound.proofs.WrittenNames.{written_named}
use Rattle.cedar_schema_sound.proofs.attribute_laws.built_attributes_are_plain.Goals as goal

pub returns-clause-named : goal.returns-clause-named
returns-clause-named c = λ d named. schema_plain d named

pub returns-clause-written : goal.returns-clause-written
returns-clause-written c = λ fs d w. schema_plain d (written_named fs d w)

pub returns-clause-built : goal.returns-clause-built
returns-clause-built c = λ x fs d w k b a n e h.
    schema_plain d (written_named fs d w) a n e
    (sym (same_declared c.declarations_are_kept.ensures.types c.declarations_are_kept.ensures.found_types (schema_of d) k (b.keeps d w) a n) ∙ h)
