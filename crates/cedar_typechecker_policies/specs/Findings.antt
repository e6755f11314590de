-- What the check of a policy over its environments says.
-- Rule: the acceptance rules; impossible policies; levels (docs/RULES.md).
use Rattle.std.specs.Prelude.{◌≡◌, ◌&&◌, ◌||◌, not, ℕ, true, List, [], ◌∷◌, map, Bool, Option, if◌then◌else◌, ◌++◌}
use Rattle.std.specs.List.{list_all, flat_map}
use Rattle.cedar_expr_model.specs.Lists.{is_nil}
use Rattle.cedar_expr_model.specs.Name.{Text}
use Rattle.cedar_expr_model.specs.Table.{Table}
use Rattle.cedar_expr_names.specs.declared.loc.Loc.{Loc}
use Rattle.cedar_schema_model.specs.Environment.{Environment}
use Rattle.cedar_schema_model.specs.Schema.{Schema}
use Rattle.cedar_schema_model.specs.Types.{Mode}
use Rattle.cedar_store_model.specs.Policy.{Policy, SlotBindings, condition}
use Rattle.cedar_store_model.specs.PolicySet.{linked}
use Rattle.cedar_store_parts.specs.Parts.{id_text, bindings_of}
use Rattle.cedar_store_parts.specs.Views.{WarningSeen, impossible}
use Rattle.cedar_store_policies.specs.Templates.{template_of}
use Rattle.cedar_typechecker_model.specs.Typing.{type_of}
use Rattle.cedar_typechecker_model.specs.Verdicts.{in_mode, is_bool, is_false, fits, fits_slot, policy_environments}
use Rattle.cedar_typechecker_policies.specs.Checks.{is_error_of}
use Rattle.cedar_typechecker_policies.specs.Violations.{reached_in, violation_told, violated_by, level_of}
use Rattle.cedar_typechecker_policies.specs.declared.findings.PolicyFindings.{PolicyFindings}
use Rattle.cedar_typechecker_policies.specs.declared.findings.Subject.{Subject}

-- the policy that is checked, and at which level if at one
abbrev pub policy_in : Subject → Policy
policy_in q = linked (template_of q.template.now) (id_text q.id.now) (bindings_of q.bound.now)

abbrev pub level_in : Subject → Option ℕ
level_in q = level_of q.level

-- the environment fits these bindings
abbrev pub fits_bindings : SlotBindings → Environment → Bool
fits_bindings b e = fits_slot e.principal_slot b.principal && fits_slot e.resource_slot b.resource

-- Over these environments the policy passes where its condition has a type of truth values in each, is warned of where it has the type
-- False in each, and is impossible where it has the type False in each that fits its bindings. Errors are of the policy, and there are some
-- exactly where it doesn't pass. Its violations are those at the level, if there is one, in each environment in which its condition has a type.
pub record ChecksOver (n : Option ℕ) (m : Mode) (s : Schema) (x : Table) (p : Policy) (es : List Environment) (f : PolicyFindings) : Type 0 where
  pub passes : f.passes ≡ list_all (λ e. is_bool (type_of (in_mode m s x e) (condition p))) es
  pub warned : f.is_warned ≡ list_all (λ e. is_false (type_of (in_mode m s x e) (condition p))) es
  pub impossible : f.is_impossible ≡ list_all (λ e. not (fits p e) || is_false (type_of (in_mode m s x e) (condition p))) es
  pub policy : list_all (is_error_of p.id) f.errors.items ≡ true
  pub errors : is_nil f.errors.items ≡ f.passes
  pub violations : map violation_told f.violations.items ≡ map (reached_in p.id) (flat_map (λ e. violated_by n (in_mode m s x e) (condition p)) es)

-- the warning of a policy that is never satisfied
abbrev pub warned_as : Text → Option Loc → Bool → List WarningSeen
warned_as id l b = if b then (impossible id l ∷ []) else []

-- over all the environments of the policy
abbrev pub ChecksOverAll : Option ℕ → Mode → Schema → Table → Policy → PolicyFindings → Type 0
ChecksOverAll n m s x p = ChecksOver n m s x p (policy_environments s p)

module _ {S : Type 0} (schema : S → Schema) (table : S → Table) where
  -- over these environments of the policy that is checked
  abbrev pub SubjectChecks : S → Mode → Subject → List Environment → PolicyFindings → Type 0
  SubjectChecks s m q = ChecksOver (level_in q) m (schema s) (table s) (policy_in q)

  -- over all the environments of the policy that is checked
  abbrev pub SubjectFinds : S → Mode → Subject → PolicyFindings → Type 0
  SubjectFinds s m q = ChecksOverAll (level_in q) m (schema s) (table s) (policy_in q)

  -- What is found over some environments is found over these and one more.
  abbrev pub ChecksOneMore : S → Mode → Subject → Environment → PolicyFindings → PolicyFindings → Type 0
  ChecksOneMore s m q e old new = (es : List Environment) → SubjectChecks s m q es old → SubjectChecks s m q (es ++ e ∷ []) new
