-- What is handed in, as typing takes it, and what is said of it in the end.
use Rattle.std.proofs.Common.{◌≡◌, ℕ, true, false, ◌&&◌, List, Bool, map, refl, ap, sym, ◌∙◌, subst}
use Rattle.std.specs.Prelude.{not}
use Rattle.std.specs.List.{filter}
use Rattle.cedar_expr_model.specs.Name.{Name}
use Rattle.cedar_expr_model.specs.Table.{Table, Signature}
use Rattle.cedar_gate_accepted.specs.Handed.{IsHandedIn}
use Rattle.cedar_gate_accepted.specs.Untyped.{is_clear_of_all, plain_causes, scope_causes, admits_untyped}
use Rattle.cedar_gate_accepted.proofs.Refused.{all_admitted}
use Rattle.cedar_gate_accepted.proofs.ChecksTogether.{as_seen}
use Rattle.cedar_gate_accepted.specs.Alike.{IsKeptByTests}
use Rattle.cedar_gate_accepted.specs.Checked.{IsTypedBy, IsClearOfTyping, relevant_ids}
use Rattle.cedar_gate_accepted.proofs.Listed.{filter_alike}
use Rattle.cedar_gate_accepted.proofs.Tested.{tested_alike}
use Rattle.cedar_gate_model.specs.Acceptance.{Submission, schema_in, has_schema, IsAccepted, policies_for}
use Rattle.cedar_gate_model.specs.GateLaws.{AcceptanceDecides}
use Rattle.cedar_schema_model.specs.Kept.{Kept}
use Rattle.cedar_schema_model.specs.KeptOf.{IsKeptOf}
use Rattle.cedar_schema_model.specs.Declarations.{Declarations}
use Rattle.cedar_schema_model.specs.Resolved.{schema_of}
use Rattle.cedar_schema_model.specs.Schema.{Schema}
use Rattle.cedar_store_model.specs.Answer.{ids}
use Rattle.cedar_store_model.specs.Policy.{Policy}
use Rattle.cedar_typechecker_model.specs.Verdicts.{RequestType, irrelevant_for}
use Rattle.cedar_typechecker_model.specs.Alike.{AnswersAlike, HasSameSignatures}
use Rattle.cedar_typechecker_model.specs.AlikeLaws.{IrrelevantIsAlike}
use Rattle.cedar_typechecker_model.specs.Seen.{schema_seen}
use Rattle.cedar_typechecker_model.specs.SeenLaws.{DeclaredAnswerAlike}

module _ (d : Declarations) (ps : List Policy) (y : Table) (limit : ℕ) (s : Submission) (w : IsHandedIn d ps y.functions y.ordered limit s) where
  same_table : HasSameSignatures s.table y
  same_table = record { functions = w.functions; ordered = w.ordered }

  pub as_typed : DeclaredAnswerAlike → (k : Kept) → IsKeptOf (schema_of d) k → (n : ℕ) → s.level ≡ n → IsTypedBy (schema_seen k) y ps n s
  as_typed law k kept n l = record { schema = (as_seen d ps y.functions y.ordered limit s w law k kept).schema; table = same_table; policies = w.policies; level = l }

  -- the policies that aren't irrelevant
  pub relevant_alike : DeclaredAnswerAlike → IrrelevantIsAlike → (k : Kept) → IsKeptByTests (schema_of d) k → (r : RequestType) → relevant_ids (schema_seen k) y r ps ≡ policies_for s r
  relevant_alike declared law k kept r =
      let t : Schema = schema_seen k in
      let each : (p : Policy) → irrelevant_for (schema_in s) s.table r p ≡ irrelevant_for t y r p =
      λ p. ap (λ e. irrelevant_for (schema_of e) s.table r p) w.declarations
      ∙ tested_alike (schema_of d) k kept (irrelevant_for (schema_of d) s.table r p) (irrelevant_for t y r p) (λ h. law (schema_of d) t (declared d k h) s.table y same_table r p) in
      sym (ap (λ qs. ids (filter (λ p. not (irrelevant_for (schema_in s) s.table r p)) qs)) w.policies
      ∙ ap ids (filter_alike (λ p. not (irrelevant_for (schema_in s) s.table r p)) (λ p. not (irrelevant_for t y r p)) (λ p. ap not (each p)) ps))

-- what is clear of all rules is accepted
pub all_accepted : AcceptanceDecides → (s : Submission) → admits_untyped s ≡ true → IsClearOfTyping s → IsAccepted s
all_accepted decides s h k = (decides s).0 (all_admitted s h k.typed k.near)

-- there is a schema where what is asked before typing is clear
first_true : (a b : Bool) → (a && b) ≡ true → a ≡ true
first_true true b h = refl
first_true false b h = h

pub schema_there : (s : Submission) → admits_untyped s ≡ true → has_schema s ≡ true
schema_there s h = first_true (has_schema s) (is_clear_of_all plain_causes s && is_clear_of_all scope_causes s) h

-- by the same schema and the same table
pub typed_by_same : {t u : Schema} {y z : Table} (ps : List Policy) (n : ℕ) (s : Submission) → t ≡ u → y ≡ z → IsTypedBy u z ps n s → IsTypedBy t y ps n s
typed_by_same {t} {u} {y} {z} ps n s e f w =
    let P : Schema → Type 0 = λ a. IsTypedBy a y ps n s in
    let Q : Table → Type 0 = λ b. IsTypedBy u b ps n s in
    subst P (sym e) (subst Q (sym f) w)
