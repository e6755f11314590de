-- What the laws of typing, verdicts and the scope rules say.
-- Rule: typing; the acceptance rules; impossible policies; the scope rules (docs/RULES.md).
use Rattle.std.specs.Prelude.{◌≡◌, ◌↔◌, List, [], ◌∷◌, Contains, true, Some}
use Rattle.std.specs.Bool.{Decides}
use Rattle.cedar_expr_model.specs.Name.{Text, Name}
use Rattle.cedar_expr_model.specs.Uid.{Uid}
use Rattle.cedar_expr_model.specs.Table.{Table}
use Rattle.cedar_expr_model.specs.Tree.{Tree, both, get_attr, has_attr, has_path, Trees, TreeFields}
use Rattle.cedar_store_model.specs.Policy.{Policy}
use Rattle.cedar_schema_model.specs.Types.{any_bool, only_true, Ty, bool_type, Attributes, Mode}
use Rattle.cedar_schema_model.specs.Schema.{Schema}
use Rattle.cedar_typechecker_model.specs.Facts.{Facts, no_facts, Part}
use Rattle.cedar_typechecker_model.specs.Rules.{Setting}
use Rattle.cedar_typechecker_model.specs.Typing.{Types, EachTyped, FieldsTyped, judgement, judgements, field_judgements, type_of}
use Rattle.cedar_typechecker_model.specs.ScopeRules.{policy_uids, policy_kinds, NamesUid, NamesType, NamesKnownTypes, NamesKnownActions, NamesKnownMembers, names_known_types, names_known_actions, names_known_members}
use Rattle.cedar_typechecker_model.specs.Verdicts.{PassesIn, passes_in, IsWarned, is_warned, IsImpossible, impossible, RequestType, IsIrrelevant, irrelevant_for, Verdict, HasVerdict, verdict_of}

-- an expression has a type, with facts, exactly where the function gives them; likewise lists of expressions and of fields
abbrev pub TypingIsAFunction : Type 0
TypingIsAFunction = (s : Setting) (known : Facts) (t : Tree) (ty : Ty) (out : Facts) → Types s known t ty out ↔ (judgement s known t ≡ Some (record { type = ty; facts = out }))

abbrev pub ListsAreTyped : Type 0
ListsAreTyped = (s : Setting) (known : Facts) (ts : Trees) (us : List Ty) → EachTyped s known ts us ↔ (judgements s known ts ≡ Some us)

abbrev pub FieldsAreTyped : Type 0
FieldsAreTyped = (s : Setting) (known : Facts) (fs : TreeFields) (as_ : Attributes) → FieldsTyped s known fs as_ ↔ (field_judgements s known fs ≡ Some as_)

-- no expression has two types, nor two sets of facts
abbrev pub OneJudgement : Type 0
OneJudgement = (s : Setting) (known : Facts) (t : Tree) (a b : Ty) (f g : Facts) → Types s known t a f → Types s known t b g → (a ≡ b) × (f ≡ g)

-- only an expression of the type of both truth values has facts
abbrev pub FactsAreOfBool : Type 0
FactsAreOfBool = (s : Setting) (known : Facts) (t : Tree) (ty : Ty) (out : Facts) → Types s known t ty out → (ty ≡ bool_type any_bool → ⊥) → out ≡ no_facts

-- so one of type True has none
abbrev pub TruthHasNoFacts : Type 0
TruthHasNoFacts = (s : Setting) (known : Facts) (t : Tree) (out : Facts) → judgement s known t ≡ Some (record { type = bool_type only_true; facts = out }) → out ≡ no_facts

-- each of the first facts is among the second
abbrev pub FactsAmong : Facts → Facts → Type 0
FactsAmong f g = (e : Tree) (p : Part) → f e p ≡ true → g e p ≡ true

-- where more is known, what has a type keeps it, and its facts
abbrev pub MoreFactsKeepTypes : Type 0
MoreFactsKeepTypes = (s : Setting) (known more : Facts) (t : Tree) (ty : Ty) (out : Facts) → FactsAmong known more → Types s known t ty out → Types s more t ty out

-- the test of a path, as the conjunction of its tests
abbrev pub path_unfolded : Tree → Text → List Text → Tree
path_unfolded e a [] = has_attr e a
path_unfolded e a (b ∷ bs) = both (has_attr e a) (path_unfolded (get_attr e a) b bs)

-- a path has the type and the facts of that conjunction
abbrev pub PathsAreConjunctions : Type 0
PathsAreConjunctions = (s : Setting) (known : Facts) (e : Tree) (a : Text) (bs : List Text) → judgement s known (has_path e a bs) ≡ judgement s known (path_unfolded e a bs)

-- the tests decide the verdicts on a policy
abbrev pub PassingDecides : Type 0
PassingDecides = (m : Mode) (s : Schema) (x : Table) (p : Policy) → Decides (passes_in m s x p) (PassesIn m s x p)

abbrev pub WarningDecides : Type 0
WarningDecides = (m : Mode) (s : Schema) (x : Table) (p : Policy) → Decides (is_warned m s x p) (IsWarned m s x p)

abbrev pub ImpossibleDecides : Type 0
ImpossibleDecides = (s : Schema) (x : Table) (p : Policy) → Decides (impossible s x p) (IsImpossible s x p)

abbrev pub IrrelevantDecides : Type 0
IrrelevantDecides = (s : Schema) (x : Table) (r : RequestType) (p : Policy) → Decides (irrelevant_for s x r p) (IsIrrelevant s x r p)

abbrev pub VerdictDecides : Type 0
VerdictDecides = (s : Setting) (t : Tree) (v : Verdict) → (verdict_of (type_of s t) ≡ v) ↔ HasVerdict s t v

-- the uids and entity types that are gathered are those that the policy names
abbrev pub UidsAreNamed : Type 0
UidsAreNamed = (p : Policy) (u : Uid) → Contains (policy_uids p) u ↔ NamesUid p u

abbrev pub TypesAreNamed : Type 0
TypesAreNamed = (p : Policy) (n : Name) → Contains (policy_kinds p) n ↔ NamesType p n

-- the tests decide the scope rules
abbrev pub KnownTypesDecide : Type 0
KnownTypesDecide = (s : Schema) (p : Policy) → Decides (names_known_types s p) (NamesKnownTypes s p)

abbrev pub KnownActionsDecide : Type 0
KnownActionsDecide = (s : Schema) (p : Policy) → Decides (names_known_actions s p) (NamesKnownActions s p)

abbrev pub KnownMembersDecide : Type 0
KnownMembersDecide = (s : Schema) (p : Policy) → Decides (names_known_members s p) (NamesKnownMembers s p)
