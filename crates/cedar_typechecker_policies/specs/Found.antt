-- What the sets of errors and warnings gain by a policy, and what is found of one whose levels are counted.
-- Rule: the acceptance rules; levels; the scope rules (docs/RULES.md).
use Rattle.std.specs.Prelude.{◌≡◌, ℕ, Bool, true, List, ◌++◌, map, Option}
use Rattle.std.specs.HashSet.{HashSet}
use Rattle.std.specs.List.{list_all}
use Rattle.std.specs.Set.{IsUnion}
use Rattle.cedar_expr_model.specs.Lists.{is_nil}
use Rattle.cedar_expr_model.specs.Name.{Text}
use Rattle.cedar_expr_model.specs.Table.{Table}
use Rattle.cedar_expr_names.specs.declared.loc.Loc.{Loc}
use Rattle.cedar_schema_model.specs.Schema.{Schema}
use Rattle.cedar_schema_model.specs.Types.{Mode}
use Rattle.cedar_store_model.specs.Policy.{Policy}
use Rattle.cedar_store_parts.specs.Views.{warning_of}
use Rattle.cedar_store_parts.specs.declared.diagnostics.ValidationError.{ValidationError}
use Rattle.cedar_store_parts.specs.declared.diagnostics.ValidationWarning.{ValidationWarning}
use Rattle.cedar_typechecker_model.specs.Verdicts.{passes_in, is_warned, policy_violations_in}
use Rattle.cedar_typechecker_policies.specs.Checks.{is_error_of}
use Rattle.cedar_typechecker_policies.specs.Findings.{warned_as}
use Rattle.cedar_typechecker_policies.specs.Violations.{reached_by}
use Rattle.cedar_typechecker_scopes.specs.Applying.{asked_in, application_warnings}
use Rattle.cedar_typechecker_scopes.specs.Faults.{Blame, known_types, known_actions, known_members, wrong_within, blamed, blame_of}

-- The set gains errors of the policy, and none exactly where it passes.
abbrev pub GainsErrors : {H : Type 0} → (ValidationError → ValidationError → Bool) → Text → Bool → HashSet ValidationError H → HashSet ValidationError H → Type 0
GainsErrors eq id passes old new = (es : List ValidationError) × (list_all (is_error_of id) es ≡ true) × (is_nil es ≡ passes) × IsUnion eq old.keys es new.keys

-- The set gains the warning of the policy, if it is warned of.
abbrev pub GainsWarnings : {H : Type 0} → (ValidationWarning → ValidationWarning → Bool) → Text → Option Loc → Bool → HashSet ValidationWarning H → HashSet ValidationWarning H → Type 0
GainsWarnings eq id l warned old new = (ws : List ValidationWarning) × (map warning_of ws ≡ warned_as id l warned) × IsUnion eq old.keys ws new.keys

-- what the scope passes report of the policy
abbrev pub scope_blames : Schema → Policy → List Blame
scope_blames s p = blamed p.id (wrong_within s known_types p) ++ (blamed p.id (wrong_within s known_members p) ++ blamed p.id (wrong_within s known_actions p))

-- What is found of a policy whose levels are counted: what the scope passes report, what typing reports, of which there is something
-- exactly where the policy doesn't pass, and its violations.
abbrev pub FindsErrors : ℕ → Mode → Schema → Table → Policy → List ValidationError → Type 0
FindsErrors n m s x p es = (ts : List ValidationError) × (list_all (is_error_of p.id) ts ≡ true) × (is_nil ts ≡ passes_in m s x p)
    × (map blame_of es ≡ scope_blames s p ++ (map blame_of ts ++ map (reached_by p.id) (policy_violations_in m n s x p)))

-- And its warnings: that it is never satisfied, and that its scope fits no action.
abbrev pub FindsWarnings : Mode → Schema → Table → Policy → Option Loc → List ValidationWarning → Type 0
FindsWarnings m s x p l ws = map warning_of ws ≡ warned_as p.id l (is_warned m s x p) ++ application_warnings s p.id l (asked_in p)
