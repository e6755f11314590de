-- What is kept of a schema by tests answers tests as the schema does.
use Rattle.std.proofs.Common.{◌≡◌, Bool, true, false, refl, sym, ◌∙◌}
use Rattle.cedar_expr_model.specs.Uid.{Uid}
use Rattle.cedar_gate_accepted.specs.Alike.{IsKeptByTests}
use Rattle.cedar_schema_model.specs.Kept.{Kept}
use Rattle.cedar_schema_model.specs.KeptOf.{IsKeptOf}
use Rattle.cedar_schema_model.specs.Declarations.{Declarations}
use Rattle.cedar_schema_model.specs.Resolved.{schema_of}
use Rattle.cedar_schema_model.specs.Schema.{Schema, declares_action}
use Rattle.cedar_typechecker_model.specs.Seen.{schema_seen}
use Rattle.cedar_typechecker_model.specs.SeenLaws.{DeclaredAnswerAlike}

settled : (b c : Bool) → ((b ≡ c → ⊥) → ⊥) → b ≡ c
settled true true h = refl
settled false false h = refl
settled true false h = absurd (h (λ e. cc))
settled false true h = absurd (h (λ e. cc))

pub kept_by_tests : (s : Schema) (k : Kept) → IsKeptOf s k → IsKeptByTests s k
kept_by_tests s k h = record { tested = λ n. n h }

-- two tests that are alike where it is kept
pub tested_alike : (s : Schema) (k : Kept) → IsKeptByTests s k → (b c : Bool) → (IsKeptOf s k → b ≡ c) → b ≡ c
tested_alike s k h b c law = settled b c (λ n. h.tested (λ w. n (law w)))

-- What is kept declares the actions that the declarations declare.
pub actions_alike : DeclaredAnswerAlike → (d : Declarations) (k : Kept) → IsKeptByTests (schema_of d) k → (u : Uid) → declares_action (schema_seen k) u ≡ declares_action (schema_of d) u
actions_alike law d k h u = tested_alike (schema_of d) k h (declares_action (schema_seen k) u) (declares_action (schema_of d) u) (λ w. sym ((law d k w).actions u))
