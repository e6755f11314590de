-- What is found over environments, one after the other.
use Rattle.std.proofs.Common.{◌≡◌, ℕ, ◌&&◌, ◌||◌, not, Bool, true, false, List, [], ◌∷◌, ◌++◌, Option, refl, sym, ap, ◌∙◌, append-nil, map}
use Rattle.std.specs.List.{list_all, flat_map}
use Rattle.std.proofs.lemmas.Grind.{flat_map-append}
use Rattle.std.proofs.lemmas.List.{map-append}
use Rattle.std.proofs.lemmas.List.Folds.{list_all-append}
use Rattle.cedar_expr_model.specs.Lists.{is_nil}
use Rattle.cedar_expr_model.specs.Table.{Table}
use Rattle.cedar_schema_model.specs.Environment.{Environment}
use Rattle.cedar_schema_model.specs.Schema.{Schema}
use Rattle.cedar_schema_model.specs.Types.{Mode}
use Rattle.cedar_store_model.specs.Policy.{Policy, condition}
use Rattle.cedar_typechecker_model.specs.Levels.{Violation}
use Rattle.cedar_typechecker_model.specs.Typing.{type_of}
use Rattle.cedar_typechecker_model.specs.Verdicts.{in_mode, is_bool, is_false, fits}
use Rattle.cedar_typechecker_policies.specs.Checks.{IsChecked, is_error_of}
use Rattle.cedar_typechecker_policies.specs.Fast.{IsClearVerdict}
use Rattle.cedar_typechecker_policies.specs.Findings.{ChecksOver}
use Rattle.cedar_typechecker_policies.specs.Violations.{reached_in, violation_told, violated_by}
use Rattle.cedar_typechecker_policies.specs.declared.checked.Checked.{Checked}
use Rattle.cedar_typechecker_policies.specs.declared.findings.PolicyFindings.{PolicyFindings}
use Rattle.cedar_typechecker_policies.specs.declared.verdict.Verdict.{Verdict}
use Rattle.cedar_typechecker_policies.proofs.Wrong.{nil_together}

one_true : (b : Bool) → b ≡ (b && true)
one_true true = refl
one_true false = refl

-- one function after another
pub map_both : {X Y Z : Type 0} (f : Y → Z) (g : X → Y) (xs : List X) → map (λ x. f (g x)) xs ≡ map f (map g xs)
map_both f g [] = refl
map_both f g (x ∷ xs) = ap (λ ys. f (g x) ∷ ys) (map_both f g xs)

module _ (n : Option ℕ) (m : Mode) (s : Schema) (x : Table) (p : Policy) where
  abbrev bool_in : Environment → Bool
  bool_in e = is_bool (type_of (in_mode m s x e) (condition p))

  abbrev false_in : Environment → Bool
  false_in e = is_false (type_of (in_mode m s x e) (condition p))

  abbrev excused_in : Environment → Bool
  excused_in e = not (fits p e) || false_in e

  abbrev violated_in : Environment → List Violation
  violated_in e = violated_by n (in_mode m s x e) (condition p)

  -- nothing is found yet
  pub checks_none : (f : PolicyFindings) → f.passes ≡ true → f.is_warned ≡ true → f.is_impossible ≡ true → f.errors.items ≡ [] → f.violations.items ≡ [] → ChecksOver n m s x p [] f
  checks_none f passes warned impossible errors violations = record {
    passes = passes;
    warned = warned;
    impossible = impossible;
    policy = ap (list_all (is_error_of p.id)) errors;
    errors = ap is_nil errors ∙ sym passes;
    violations = ap (map violation_told) violations;
  }

  -- one more environment
  module _ (es : List Environment) (e : Environment) (old new : PolicyFindings) (c : Checked) (fit : Bool) where
    pub checks_more : IsChecked (in_mode m s x e) (condition p) p.id c → ChecksOver n m s x p es old → fit ≡ fits p e
        → new.passes ≡ (old.passes && c.verdict.is_bool) → new.is_warned ≡ (old.is_warned && c.verdict.is_false) → new.is_impossible ≡ (old.is_impossible && (not fit || c.verdict.is_false))
        → new.errors.items ≡ old.errors.items ++ c.errors.items → map violation_told new.violations.items ≡ map violation_told old.violations.items ++ map (reached_in p.id) (violated_in e)
        → ChecksOver n m s x p (es ++ e ∷ []) new
    checks_more now was fitting passes warned impossible errors violations = record {
      passes = passes ∙ (λ i. was.passes i && (now.verdict.bools ∙ one_true (bool_in e)) i) ∙ sym (list_all-append bool_in es (e ∷ []));
      warned = warned ∙ (λ i. was.warned i && (now.verdict.falses ∙ one_true (false_in e)) i) ∙ sym (list_all-append false_in es (e ∷ []));
      impossible = impossible ∙ (λ i. was.impossible i && ((λ j. not (fitting j) || now.verdict.falses j) ∙ one_true (excused_in e)) i) ∙ sym (list_all-append excused_in es (e ∷ []));
      policy = ap (list_all (is_error_of p.id)) errors ∙ list_all-append (is_error_of p.id) old.errors.items c.errors.items ∙ (λ i. was.policy i && now.policy i);
      errors = ap is_nil errors ∙ nil_together old.errors.items c.errors.items ∙ (λ i. was.errors i && now.errors i) ∙ sym passes;
      violations =
          violations
          ∙ (λ i. was.violations i ++ map (reached_in p.id) (sym (append-nil (violated_in e)) i))
          ∙ sym (map-append (reached_in p.id) (flat_map violated_in es) (flat_map violated_in (e ∷ [])))
          ∙ ap (map (reached_in p.id)) (sym (flat_map-append violated_in es (e ∷ [])));
    }

  -- one more environment, in which nothing is wrong
  module _ (es : List Environment) (e : Environment) (old new : PolicyFindings) (v : Verdict) (fit : Bool) where
    none_more : violated_in e ≡ [] → flat_map violated_in es ≡ flat_map violated_in (es ++ e ∷ [])
    none_more none = sym (flat_map-append violated_in es (e ∷ []) ∙ (λ i. flat_map violated_in es ++ (none i ++ [])) ∙ append-nil (flat_map violated_in es))

    pub checks_clear : IsClearVerdict n (in_mode m s x e) (condition p) v → ChecksOver n m s x p es old → fit ≡ fits p e
        → new.passes ≡ (old.passes && v.is_bool) → new.is_warned ≡ (old.is_warned && v.is_false) → new.is_impossible ≡ (old.is_impossible && (not fit || v.is_false))
        → new.errors ≡ old.errors → new.violations ≡ old.violations
        → ChecksOver n m s x p (es ++ e ∷ []) new
    checks_clear now was fitting passes warned impossible errors violations = record {
      passes = passes ∙ (λ i. was.passes i && (now.verdict.bools ∙ one_true (bool_in e)) i) ∙ sym (list_all-append bool_in es (e ∷ []));
      warned = warned ∙ (λ i. was.warned i && (now.verdict.falses ∙ one_true (false_in e)) i) ∙ sym (list_all-append false_in es (e ∷ []));
      impossible = impossible ∙ (λ i. was.impossible i && ((λ j. not (fitting j) || now.verdict.falses j) ∙ one_true (excused_in e)) i) ∙ sym (list_all-append excused_in es (e ∷ []));
      policy = ap (λ es. list_all (is_error_of p.id) es.items) errors ∙ was.policy;
      errors = ap (λ es. is_nil es.items) errors ∙ was.errors ∙ one_true old.passes ∙ (λ i. old.passes && sym now.bools i) ∙ sym passes;
      violations = ap (λ vs. map violation_told vs.items) violations ∙ was.violations ∙ ap (map (reached_in p.id)) (none_more now.within);
    }
