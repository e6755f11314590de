use Rattle.std.proofs.Common.{sym, subst}
use Rattle.cedar_gate_accepted.specs.Handed.{IsSeenBy}
use Rattle.cedar_gate_rules.specs.Policies.{policies_of}
use Rattle.cedar_schema_model.specs.Schema.{Schema}
use Rattle.cedar_gate_accepted.proofs.admitted.check_by.Goals as goal

pub returns-clause-kept : goal.returns-clause-kept
returns-clause-kept g c =
    λ s w. let P : Schema → Type 0 = λ t. IsSeenBy t (policies_of c.args.policies.now) s in c.check_names.ensures.kept s (subst P (sym c.in_ok-asked.ensures.schema) w)
