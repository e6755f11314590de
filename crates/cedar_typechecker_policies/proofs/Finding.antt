-- What is found of a policy, by what is found over its environments.
use Rattle.std.proofs.Common.{◌≡◌, ◌||◌, ℕ, Bool, true, Some, List, [], ◌∷◌, ◌++◌, Result, Ok, Err, refl, sym, ap, ◌∙◌, append_assoc, map, IfOk, OnOk}
use Rattle.std.specs.Set.{is_member, IsUnion}
use Rattle.cedar_expr_model.specs.Lists.{is_nil}
use Rattle.cedar_expr_model.specs.Table.{Table}
use Rattle.cedar_schema_model.specs.Schema.{Schema}
use Rattle.cedar_schema_model.specs.Types.{Mode, strict}
use Rattle.cedar_store_model.specs.Policy.{Policy}
use Rattle.cedar_store_parts.specs.declared.diagnostics.ValidationError.{ValidationError}
use Rattle.cedar_typechecker_model.specs.Verdicts.{passes_in, policy_environments, policy_violations_in}
use Rattle.cedar_typechecker_policies.specs.Findings.{ChecksOver}
use Rattle.cedar_typechecker_policies.specs.Violations.{reached_in, reached_by, violation_told, blame_told, Reached}
use Rattle.cedar_typechecker_policies.specs.Found.{FindsErrors, scope_blames}
use Rattle.cedar_typechecker_policies.specs.Sound.{ForAlike, PolicyMeansTruth, LooksInReach}
use Rattle.cedar_typechecker_policies.specs.declared.findings.PolicyFindings.{PolicyFindings}
use Rattle.cedar_typechecker_policies.proofs.Over.{map_both}
use Rattle.cedar_typechecker_policies.proofs.Sound.{passing_means, passing_reaches}
use Rattle.cedar_typechecker_scopes.specs.Faults.{Blame, blame_of}

-- what is so of what is answered, and what follows from that
pub on_ok : {X E : Type 0} (r : Result X E) (P Q : X → Type 0) → ((x : X) → P x → Q x) → IfOk r P → IfOk r Q
on_ok (Ok x) P Q f h = f x h
on_ok (Err e) P Q f h = tt

pub on_done : {X E : Type 0} (r : Result X E) (P Q : Type 0) → (P → Q) → OnOk r P → OnOk r Q
on_done (Ok x) P Q f h = f h
on_done (Err e) P Q f h = tt

-- a union with a set that has the same members
pub union_after : {K : Type 0} (eq : K → K → Bool) (old mid more new : List K) → ((q : K) → is_member eq mid q ≡ is_member eq old q) → IsUnion eq mid more new → IsUnion eq old more new
union_after eq old mid more new same union q = union q ∙ ap (λ b. b || is_member eq more q) (same q)

nil_left : {X : Type 0} (xs ys : List X) → xs ++ ys ≡ [] → xs ≡ []
nil_left [] ys e = refl
nil_left (x ∷ xs) ys e = absurd (cc)

nil_right : {X : Type 0} (xs ys : List X) → xs ++ ys ≡ [] → ys ≡ []
nil_right [] ys e = e
nil_right (x ∷ xs) ys e = absurd (cc)

of_map : {X Y : Type 0} (f : X → Y) (xs : List X) → map f xs ≡ [] → xs ≡ []
of_map f [] e = refl
of_map f (x ∷ xs) e = absurd (cc)

-- what is said of each violation
abbrev blame_reached : Reached → Blame
blame_reached r = reached_by r.policy r.violation

module _ (n : ℕ) (m : Mode) (s : Schema) (x : Table) (p : Policy) (f : PolicyFindings) (h : ChecksOver (Some n) m s x p (policy_environments s p) f) (es : List ValidationError)
    (are : map blame_of es ≡ (scope_blames s p ++ map blame_of f.errors.items) ++ map blame_told f.violations.items) where
  reached : map blame_told f.violations.items ≡ map (reached_by p.id) (policy_violations_in m n s x p)
  reached =
      map_both blame_reached violation_told f.violations.items
      ∙ ap (map blame_reached) h.violations
      ∙ sym (map_both blame_reached (reached_in p.id) (policy_violations_in m n s x p))

  -- its errors
  pub errors_found : FindsErrors n m s x p es
  errors_found = (
    f.errors.items,
    h.policy,
    h.errors ∙ h.passes,
    are ∙ append_assoc (scope_blames s p) (map blame_of f.errors.items) (map blame_told f.violations.items) ∙ ap (λ r. scope_blames s p ++ (map blame_of f.errors.items ++ r)) reached,
  )

  module _ (nothing : es ≡ []) where
    nowhere : (scope_blames s p ++ map blame_of f.errors.items) ++ map blame_told f.violations.items ≡ []
    nowhere = sym are ∙ ap (map blame_of) nothing

    untyped : f.errors.items ≡ []
    untyped = of_map blame_of f.errors.items (nil_right (scope_blames s p) (map blame_of f.errors.items) (nil_left (scope_blames s p ++ map blame_of f.errors.items) (map blame_told f.violations.items) nowhere))

    passing : passes_in m s x p ≡ true
    passing = sym h.passes ∙ sym h.errors ∙ ap is_nil untyped

    unreached : policy_violations_in m n s x p ≡ []
    unreached = of_map (reached_by p.id) (policy_violations_in m n s x p) (sym reached ∙ nil_right (scope_blames s p ++ map blame_of f.errors.items) (map blame_told f.violations.items) nowhere)

    -- and where nothing is wrong, what that promises
    pub nothing_means : m ≡ strict → ForAlike s x (PolicyMeansTruth p)
    nothing_means k = passing_means m s x p k passing

    pub nothing_reaches : m ≡ strict → ForAlike s x (LooksInReach n p)
    nothing_reaches k = passing_reaches m s x p k passing n unreached
