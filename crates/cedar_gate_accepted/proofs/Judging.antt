-- What a check of all policies says of a submission.
use Rattle.std.proofs.Common.{◌≡◌, ℕ, true, false, Some, List, ◌==◌, ◌∷◌, [], ◌++◌, ◌&&◌, Bool, cond, map, length, refl, ap, sym, ◌∙◌, append-nil}
use Rattle.std.specs.Prelude.{not, if◌then◌else◌}
use Rattle.std.specs.List.{list_all, filter, flat_map}
use Rattle.std.proofs.lemmas.Grind.{flat_map-append}
use Rattle.std.proofs.lemmas.List.{map-append}
use Rattle.std.proofs.lemmas.List.Folds.{list_all-append}
use Rattle.cedar_expr_model.specs.Lists.{is_nil}
use Rattle.cedar_expr_model.specs.Table.{Table}
use Rattle.cedar_gate_accepted.proofs.Kept.{all_alike}
use Rattle.cedar_gate_accepted.proofs.Refused.{schema_fault}
use Rattle.cedar_gate_accepted.specs.Checked.{ChecksAll, IsTypedBy, IsJudgedBy, IsClearOfTyping, relevant_ids}
use Rattle.cedar_gate_accepted.specs.declared.checked.Checked.{Checked}
use Rattle.cedar_gate_accepted.proofs.Listed.{filter_both, filter_alike, nil_all, nil_map, nil_length}
use Rattle.cedar_gate_accepted.specs.Causes.{IsRefusedFor}
use Rattle.cedar_gate_accepted.proofs.Excused.{all_filtered}
use Rattle.cedar_gate_accepted.specs.Violations.{violations_of, all_violations}
use Rattle.cedar_typechecker_policies.specs.Findings.{ChecksOver}
use Rattle.cedar_typechecker_policies.specs.Violations.{reached_in, violation_told}
use Rattle.cedar_typechecker_policies.specs.declared.findings.PolicyFindings.{PolicyFindings}
use Rattle.cedar_gate_accepted.specs.declared.fault.GateFault.TheVariants.{IllTyped, Level}
use Rattle.cedar_gate_model.specs.Acceptance.{Submission, ill_typed, reaches_too_far, schema_in, is_clear_of, has_schema, warnings_of}
use Rattle.cedar_schema_model.specs.Schema.{Schema}
use Rattle.cedar_schema_model.specs.Types.{strict}
use Rattle.cedar_store_model.specs.Answer.{ids}
use Rattle.cedar_store_model.specs.Policy.{Policy}
use Rattle.cedar_store_parts.specs.Parts.{id_text}
use Rattle.cedar_typechecker_model.specs.Verdicts.{RequestType, passes, impossible, irrelevant_for, is_false, fits, condition_type, policy_environments, policy_violations, violations_in}
use Rattle.cedar_typechecker_model.specs.Alike.{AnswersAlike, HasSameSignatures}
use Rattle.cedar_typechecker_model.proofs.Alike.Levels.{same_violations_in}
use Rattle.cedar_typechecker_model.specs.AlikeLaws.{PassingIsAlike, ImpossibleIsAlike, LevelsAreAlike}

-- the ids of one more, if the test lets it through
id_filtered : (p : Policy → Bool) (q : Policy) (b : Bool) → p q ≡ b → (if b then (q.id ∷ []) else []) ≡ ids (filter p (q ∷ []))
id_filtered p q true h = rw h refl
id_filtered p q false h = rw h refl

ids_both : (ps qs : List Policy) → ids (ps ++ qs) ≡ ids ps ++ ids qs
ids_both ps qs = map-append (λ (p : Policy). p.id) ps qs

one_true : (b : Bool) → b ≡ (b && true)
one_true true = refl
one_true false = refl

-- the ids of policies and of one more
pub ids_more : (p : Policy → Bool) (ps : List Policy) (q : Policy) → ids (filter p ps) ++ ids (filter p (q ∷ [])) ≡ ids (filter p (ps ++ q ∷ []))
ids_more p ps q = sym (ap ids (filter_both p ps (q ∷ [])) ∙ ids_both (filter p ps) (filter p (q ∷ [])))

-- a policy that is left out, and one that isn't
pub left_out : (s : Schema) (x : Table) (r : RequestType) (q : Policy) → irrelevant_for s x r q ≡ true → [] ≡ relevant_ids s x r (q ∷ [])
left_out s x r q h = id_filtered (λ p. not (irrelevant_for s x r p)) q false (ap not h)

pub taken_in : (s : Schema) (x : Table) (r : RequestType) (q : Policy) → irrelevant_for s x r q ≡ false → q.id ∷ [] ≡ relevant_ids s x r (q ∷ [])
taken_in s x r q h = id_filtered (λ p. not (irrelevant_for s x r p)) q true (ap not h)

-- the violations of a policy, whatever the functions of the table answer
alike_self : (t : Schema) → AnswersAlike t t
alike_self t = record {
  types = λ n. refl;
  actions = λ u. refl;
  type_descent = λ m n. refl;
  action_descent = λ u v. refl;
  attributes = λ a n. refl;
  tags = λ n. refl;
  action_types = λ n. refl;
  members = λ u. refl;
  environments = λ e. (λ h. h, λ h. h);
  above = λ n m. (λ h. h, λ h. h);
}

flat_alike : {X Y : Type 0} (f g : X → List Y) → ((x : X) → f x ≡ g x) → (xs : List X) → flat_map f xs ≡ flat_map g xs
flat_alike f g h [] = refl
flat_alike f g h (x ∷ xs) = λ i. h x i ++ flat_alike f g h xs i

same_told : (n : ℕ) (t : Schema) (x y : Table) → HasSameSignatures x y → (p : Policy) → violations_of n t x p ≡ violations_of n t y p
same_told n t x y q p =
    ap (map (reached_in p.id))
    (flat_alike (violations_in strict n t x p) (violations_in strict n t y p) (λ e. same_violations_in t t (alike_self t) strict x y q e n p) (policy_environments t p))

-- one more policy
module _ (n : ℕ) (s : Schema) (x : Table) (ps : List Policy) (p : Policy) (old new : Checked) where
  pub checks_more : (f : PolicyFindings) → ChecksAll n s x ps old → ChecksOver (Some n) strict s x p (policy_environments s p) f
      → new.passes ≡ (old.passes && f.passes) → map violation_told new.violations.items ≡ map violation_told old.violations.items ++ map violation_told f.violations.items
      → map id_text new.warnings.items ≡ map id_text old.warnings.items ++ (if f.is_impossible then (p.id ∷ []) else []) → ChecksAll n s x (ps ++ p ∷ []) new
  checks_more f was h passed found warned = record {
    passes = passed ∙ (λ i. was.passes i && (h.passes ∙ one_true (passes s x p)) i) ∙ sym (list_all-append (passes s x) ps (p ∷ []));
    violations = found ∙ (λ i. was.violations i ++ (h.violations ∙ sym (append-nil (violations_of n s x p))) i) ∙ sym (flat_map-append (violations_of n s x) ps (p ∷ []));
    warnings = warned ∙ (λ i. was.warnings i ++ id_filtered (impossible s x) p f.is_impossible (sym (h.impossible ∙ all_filtered (λ e. is_false (condition_type s x p e)) (fits p) (policy_environments s p))) i) ∙ ids_more (impossible s x) ps p;
  }

module _ (n : ℕ) (t : Schema) (y : Table) (ps : List Policy) (c : Checked) (s : Submission) (w : IsTypedBy t y ps n s) (h : ChecksAll n t y ps c) where
  pub judged_by : PassingIsAlike → LevelsAreAlike → IsJudgedBy s c
  judged_by passing levels = record {
    typed =
        ap (list_all (passes (schema_in s) s.table)) w.policies
        ∙ all_alike (passes (schema_in s) s.table) (passes t y) (passing (schema_in s) t w.schema s.table y w.table strict) ps
        ∙ sym h.passes;
    near =
        (λ i. list_all (λ p. is_nil (policy_violations (w.level i) (schema_in s) s.table p)) (w.policies i))
        ∙ all_alike (λ p. is_nil (policy_violations n (schema_in s) s.table p)) (λ p. is_nil (violations_of n t y p))
        (λ p. levels (schema_in s) t w.schema s.table y w.table strict n p ∙ sym (nil_map (reached_in p.id) (policy_violations n t y p))) ps
        ∙ nil_all (violations_of n t y) ps
        ∙ ap is_nil (sym h.violations)
        ∙ nil_map violation_told c.violations.items;
    violations = record {
      schema = t;
      alike = w.schema;
      all = h.violations ∙ sym ((λ i. all_violations (w.level i) t s.table (w.policies i)) ∙ flat_alike (violations_of n t s.table) (violations_of n t y) (same_told n t s.table y w.table) ps);
    };
  }

  pub warned_by : ImpossibleIsAlike → map id_text c.warnings.items ≡ warnings_of s
  warned_by law =
      h.warnings
      ∙ sym (ap (λ qs. ids (filter (impossible (schema_in s) s.table) qs)) w.policies ∙ ap ids (filter_alike (impossible (schema_in s) s.table) (impossible t y) (law (schema_in s) t w.schema s.table y w.table) ps))

module _ (s : Submission) (c : Checked) (w : IsJudgedBy s c) where
  pub clear_of_typing : c.passes ≡ true → (length c.violations.items == 0) ≡ true → IsClearOfTyping s
  clear_of_typing h k = record { typed = w.typed ∙ h; near = w.near ∙ nil_length c.violations.items ∙ k }

  pub ill_typed_refused : has_schema s ≡ true → c.passes ≡ false → IsRefusedFor s IllTyped
  ill_typed_refused k h = schema_fault s ill_typed tt k (w.typed ∙ h)

  pub too_far_refused : has_schema s ≡ true → (length c.violations.items == 0) ≡ false → IsRefusedFor s (Level c.violations)
  too_far_refused k h =
      let some : is_nil c.violations.items ≡ false = nil_length c.violations.items ∙ h in (schema_fault s reaches_too_far tt k (w.near ∙ some), w.violations, some)
