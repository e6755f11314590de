-- What the laws of schemas that answer alike say. What the functions of a table answer is never asked.
-- Rule: the acceptance rules; impossible policies; levels; the scope rules (docs/RULES.md).
use Rattle.std.specs.Prelude.{◌≡◌, ◌↔◌, ℕ, Contains}
use Rattle.cedar_expr_model.specs.Lists.{is_nil}
use Rattle.cedar_expr_model.specs.Table.{Table}
use Rattle.cedar_expr_model.specs.Tree.{Tree}
use Rattle.cedar_store_model.specs.Policy.{Policy}
use Rattle.cedar_schema_model.specs.Environment.{Environment}
use Rattle.cedar_schema_model.specs.Schema.{Schema}
use Rattle.cedar_schema_model.specs.Types.{Mode}
use Rattle.cedar_typechecker_model.specs.Facts.{Facts}
use Rattle.cedar_typechecker_model.specs.Levels.{Violation, violations}
use Rattle.cedar_typechecker_model.specs.ScopeRules.{names_known_types, names_known_actions, names_known_members}
use Rattle.cedar_typechecker_model.specs.Typing.{judgement}
use Rattle.cedar_typechecker_model.specs.Verdicts.{RequestType, in_mode, policy_environments, passes_in, is_warned, impossible, irrelevant_for, policy_violations_in}
use Rattle.cedar_typechecker_model.specs.Alike.{AnswersAlike, HasSameSignatures}

-- An expression has the same type and facts, and the same violations.
abbrev pub TypesAreAlike : Type 0
TypesAreAlike = (s t : Schema) → AnswersAlike s t → (x y : Table) → HasSameSignatures x y → (w : Mode) (e : Environment) (known : Facts) (a : Tree) → judgement (in_mode w s x e) known a ≡ judgement (in_mode w t y e) known a

abbrev pub CountsAreAlike : Type 0
CountsAreAlike = (s t : Schema) → AnswersAlike s t → (x y : Table) → HasSameSignatures x y → (w : Mode) (e : Environment) (n : ℕ) (known : Facts) (a : Tree) → violations n (in_mode w s x e) known a ≡ violations n (in_mode w t y e) known a

-- A policy has the same environments, in any order.
abbrev pub EnvironmentsAreAlike : Type 0
EnvironmentsAreAlike = (s t : Schema) → AnswersAlike s t → (p : Policy) (e : Environment) → Contains (policy_environments s p) e ↔ Contains (policy_environments t p) e

-- By schemas that answer alike the same policies pass, are warned of, are impossible, and are irrelevant for a request's types.
abbrev pub PassingIsAlike : Type 0
PassingIsAlike = (s t : Schema) → AnswersAlike s t → (x y : Table) → HasSameSignatures x y → (w : Mode) (p : Policy) → passes_in w s x p ≡ passes_in w t y p

abbrev pub WarningsAreAlike : Type 0
WarningsAreAlike = (s t : Schema) → AnswersAlike s t → (x y : Table) → HasSameSignatures x y → (w : Mode) (p : Policy) → is_warned w s x p ≡ is_warned w t y p

abbrev pub ImpossibleIsAlike : Type 0
ImpossibleIsAlike = (s t : Schema) → AnswersAlike s t → (x y : Table) → HasSameSignatures x y → (p : Policy) → impossible s x p ≡ impossible t y p

abbrev pub IrrelevantIsAlike : Type 0
IrrelevantIsAlike = (s t : Schema) → AnswersAlike s t → (x y : Table) → HasSameSignatures x y → (r : RequestType) (p : Policy) → irrelevant_for s x r p ≡ irrelevant_for t y r p

-- A policy has the same violations at a level, in any order, and none by both or by neither.
abbrev pub ViolationsAreAlike : Type 0
ViolationsAreAlike = (s t : Schema) → AnswersAlike s t → (x y : Table) → HasSameSignatures x y → (w : Mode) (n : ℕ) (p : Policy) (v : Violation) → Contains (policy_violations_in w n s x p) v ↔ Contains (policy_violations_in w n t y p) v

abbrev pub LevelsAreAlike : Type 0
LevelsAreAlike = (s t : Schema) → AnswersAlike s t → (x y : Table) → HasSameSignatures x y → (w : Mode) (n : ℕ) (p : Policy) → is_nil (policy_violations_in w n s x p) ≡ is_nil (policy_violations_in w n t y p)

-- By schemas that answer alike the same policies keep each of the scope rules.
abbrev pub KnownTypesAreAlike : Type 0
KnownTypesAreAlike = (s t : Schema) → AnswersAlike s t → (p : Policy) → names_known_types s p ≡ names_known_types t p

abbrev pub KnownActionsAreAlike : Type 0
KnownActionsAreAlike = (s t : Schema) → AnswersAlike s t → (p : Policy) → names_known_actions s p ≡ names_known_actions t p

abbrev pub KnownMembersAreAlike : Type 0
KnownMembersAreAlike = (s t : Schema) → AnswersAlike s t → (p : Policy) → names_known_members s p ≡ names_known_members t p
