-- What is handed in, as each of the checks takes it, and what they say together.
use Rattle.std.proofs.Common.{◌≡◌, ℕ, true, false, ◌&&◌, ap, sym, ◌∙◌, subst}
use Rattle.std.specs.Prelude.{List, flat_map, option_to_list, filter_map}
use Rattle.cedar_expr_functions.specs.Signatures.{given_type}
use Rattle.cedar_expr_model.specs.Name.{Name}
use Rattle.cedar_expr_model.specs.Table.{Signature}
use Rattle.cedar_gate_accepted.specs.Handed.{HasPolicies, IsSeenBy, IsHandedIn}
use Rattle.cedar_gate_accepted.specs.Untyped.{is_clear_of_all, plain_causes, scope_causes, admits_untyped}
use Rattle.cedar_gate_accepted.proofs.Refused.{has_declared}
use Rattle.cedar_gate_accepted.proofs.DeclaredGiven.{all_given}
use Rattle.cedar_gate_accepted.specs.Refused.{IsSubmittedWith}
use Rattle.cedar_gate_model.specs.Acceptance.{Submission, extension_of, extension_types, has_schema}
use Rattle.cedar_schema_model.specs.Kept.{Kept}
use Rattle.cedar_schema_model.specs.KeptOf.{IsKeptOf}
use Rattle.cedar_schema_model.specs.BagLaws.{WellFormedDecides}
use Rattle.cedar_schema_model.specs.Declarations.{Declarations}
use Rattle.cedar_schema_model.specs.Resolved.{schema_of}
use Rattle.cedar_schema_model.specs.WellFormed.{IsWellFormed, has_schema_fault, unresolved_external}
use Rattle.cedar_store_model.specs.Policy.{Policy}
use Rattle.cedar_typechecker_model.specs.Alike.{AnswersAlike}
use Rattle.cedar_typechecker_model.specs.Seen.{schema_seen}
use Rattle.cedar_typechecker_model.specs.SeenLaws.{DeclaredAnswerAlike}

module _ (d : Declarations) (ps : List Policy) (fs : List Signature) (os : List Name) (limit : ℕ) (s : Submission) (w : IsHandedIn d ps fs os limit s) where
  pub given : extension_types s.table ≡ filter_map given_type fs
  given = ap (flat_map (λ f. flat_map extension_of (option_to_list f.result))) w.functions ∙ all_given fs

  pub as_submitted : IsSubmittedWith (filter_map given_type fs) d s
  as_submitted = record { declared = w.declarations; given = given }

  pub as_policies : HasPolicies ps limit s
  as_policies = record { policies = w.policies; limit = w.limit }

  pub as_seen : DeclaredAnswerAlike → (k : Kept) → IsKeptOf (schema_of d) k → IsSeenBy (schema_seen k) ps s
  as_seen law k kept =
      let P : Declarations → Type 0 = λ e. AnswersAlike (schema_of e) (schema_seen k) in
      record { schema = subst P (sym w.declarations) (law d k kept); policies = w.policies }

  pub as_declared : WellFormedDecides → IsWellFormed (filter_map given_type fs) d → has_schema_fault (filter_map given_type fs) d unresolved_external ≡ false → has_schema s ≡ true
  as_declared decide formed complete = has_declared decide (filter_map given_type fs) d formed complete s w.declarations given

-- the three checks
pub all_asked : (s : Submission) → has_schema s ≡ true → is_clear_of_all plain_causes s ≡ true → is_clear_of_all scope_causes s ≡ true → admits_untyped s ≡ true
all_asked s h k l = λ i. h i && (k i && l i)
