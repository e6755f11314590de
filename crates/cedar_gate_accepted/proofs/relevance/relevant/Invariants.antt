use Rattle.std.proofs.Common.{◌≡◌, map, take}
use Rattle.cedar_gate_accepted.specs.Checked.{relevant_ids}
use Rattle.cedar_gate_rules.specs.Policies.{policies_of}
use Rattle.cedar_gate_accepted.specs.Checks.{kind_asked}
use Rattle.cedar_store_parts.specs.Parts.{id_text}
use Rattle.cedar_gate_accepted.proofs.relevance.relevant.Given as goal

abbrev pub invariant-loop-policy : goal.invariant-loop-policy
invariant-loop-policy g l = map id_text l.found.items ≡ relevant_ids (g.S.DeclaredAttributes.schema l.schema) (g.S.TypingSchema.table l.schema) (kind_asked l.kind) (policies_of (take l.policy-index l.policies))
