-- What is found of a template: what the sets of errors and warnings gain, and, where its levels are counted, all that is wrong with it or odd.
-- Rule: the acceptance rules; levels; the scope rules (docs/RULES.md).
use Rattle.std.specs.Prelude.{◌≡◌, ℕ, Bool, List, [], ◌++◌, map}
use Rattle.std.specs.HashSet.{HashSet}
use Rattle.cedar_expr_model.specs.Table.{Table}
use Rattle.cedar_schema_model.specs.Schema.{Schema}
use Rattle.cedar_schema_model.specs.Types.{Mode}
use Rattle.cedar_store_model.specs.Policy.{Policy}
use Rattle.cedar_store_parts.specs.Views.{WarningSeen}
use Rattle.cedar_store_parts.specs.contracts.diagnostics.ValidationErrorPartialEq.TheImpl as error_equality
use Rattle.cedar_store_parts.specs.contracts.diagnostics.ValidationWarningPartialEq.TheImpl as warning_equality
use Rattle.cedar_store_parts.specs.declared.diagnostics.ValidationError.{ValidationError}
use Rattle.cedar_store_parts.specs.declared.diagnostics.ValidationWarning.{ValidationWarning}
use Rattle.cedar_store_policies.specs.Templates.{template_of, template_loc}
use Rattle.cedar_store_policies.specs.declared.template.Template.{Template}
use Rattle.cedar_typechecker_model.specs.Verdicts.{passes_in, is_warned}
use Rattle.cedar_typechecker_policies.specs.Findings.{warned_as}
use Rattle.cedar_typechecker_policies.specs.Found.{GainsErrors, GainsWarnings, FindsErrors, FindsWarnings, scope_blames}
use Rattle.cedar_typechecker_policies.specs.Sound.{ForAlike, PolicyMeansTruth, LooksInReach}
use Rattle.cedar_typechecker_policies.specs.Violations.{blame_told}
use Rattle.cedar_typechecker_policies.specs.declared.findings.PolicyFindings.{PolicyFindings}
use Rattle.cedar_typechecker_policies.specs.declared.leveled.Validated.{Validated}
use Rattle.cedar_typechecker_scopes.specs.Applying.{asked_in, application_warnings}
use Rattle.cedar_typechecker_scopes.specs.Faults.{Blame, blame_of}

-- The set gains errors of the template, and none exactly where it passes; and the warning of the template, if it is warned of.
abbrev pub GainsErrorsOf : {H : Type 0} → Template → Bool → HashSet ValidationError H → HashSet ValidationError H → Type 0
GainsErrorsOf t passes old new = GainsErrors (error_equality.ghosts).eq (template_of t).id passes old new

abbrev pub GainsWarningOf : {H : Type 0} → Template → Bool → HashSet ValidationWarning H → HashSet ValidationWarning H → Type 0
GainsWarningOf t warned old new = GainsWarnings (warning_equality.ghosts).eq (template_of t).id (template_loc t) warned old new

-- by what typing says of it in a mode
module _ {S : Type 0} (schema : S → Schema) (table : S → Table) where
  abbrev pub GainsErrorsBy : {H : Type 0} → S → Mode → Template → HashSet ValidationError H → HashSet ValidationError H → Type 0
  GainsErrorsBy s m t old new = GainsErrorsOf t (passes_in m (schema s) (table s) (template_of t)) old new

  abbrev pub GainsWarningBy : {H : Type 0} → S → Mode → Template → HashSet ValidationWarning H → HashSet ValidationWarning H → Type 0
  GainsWarningBy s m t old new = GainsWarningOf t (is_warned m (schema s) (table s) (template_of t)) old new

-- what is odd about a template: that it is never satisfied, if it is warned of, and that its scope fits no action
abbrev pub template_warnings : Schema → Template → Bool → List WarningSeen
template_warnings s t warned = warned_as (template_of t).id (template_loc t) warned ++ application_warnings s (template_of t).id (template_loc t) (asked_in (template_of t))

-- what is wrong with a policy: by the scope rules, by typing, and then where it reaches too far
abbrev pub all_blames : Schema → Policy → PolicyFindings → List Blame
all_blames s p f = (scope_blames s p ++ map blame_of f.errors.items) ++ map blame_told f.violations.items

-- the errors, and the warnings, are those of the template
abbrev pub HasErrors : ℕ → Mode → Schema → Table → Template → Validated → Type 0
HasErrors n m s x t v = FindsErrors n m s x (template_of t) v.errors.items

abbrev pub HasWarnings : Mode → Schema → Table → Template → Validated → Type 0
HasWarnings m s x t v = FindsWarnings m s x (template_of t) (template_loc t) v.warnings.items

-- Where there are no errors the template means a truth value, and all that it looks up is in reach at the level.
abbrev pub MeansTruthUnlessWrong : Schema → Table → Template → Validated → Type 0
MeansTruthUnlessWrong s x t v = v.errors.items ≡ [] → ForAlike s x (PolicyMeansTruth (template_of t))

abbrev pub InReachUnlessWrong : Schema → Table → ℕ → Template → Validated → Type 0
InReachUnlessWrong s x n t v = v.errors.items ≡ [] → ForAlike s x (LooksInReach n (template_of t))
