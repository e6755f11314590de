-- The way along a path of attributes that is gone, and what is left of the path.
-- Rule: typing (docs/RULES.md).
use Rattle.std.specs.Prelude.{◌≡◌, List, [], ◌∷◌, ◌++◌, Option, option_map, option_and_then}
use Rattle.std.specs.List.{AllByRecursion}
use Rattle.cedar_expr_model.specs.Name.{Text}
use Rattle.cedar_expr_model.specs.Tree.{Tree, get_attr}
use Rattle.cedar_expr_trees.specs.Trees.{tree_of}
use Rattle.cedar_schema_model.specs.Types.{BoolType, any_bool, only_true, Ty, bool_type}
use Rattle.cedar_schema_types.specs.Types.{type_of}
use Rattle.cedar_typechecker_model.specs.Facts.{attribute_part}
use Rattle.cedar_typechecker_model.specs.Rules.{Setting}
use Rattle.cedar_typechecker_model.specs.Typing.{Judgement, conjoined, path_judged, step_type}
use Rattle.cedar_typechecker_answers.specs.Answers.{judgement_seen}
use Rattle.cedar_typechecker_environments.specs.Along.{LeadsTo, AlongPath}
use Rattle.cedar_typechecker_environments.specs.Facts.{capability_of, facts_among}
use Rattle.cedar_typechecker_environments.specs.declared.facts.Capability.{Capability}
use Rattle.cedar_typechecker_operators.specs.declared.paths.Way.{Way}
use Rattle.cedar_typechecker_operators.specs.declared.paths.Passed.{Passed}
use Rattle.cedar_typechecker_operators.specs.declared.paths.Passed.TheVariants.{Done, On}

-- the type of tests that give these facts: True where none of them gives one
abbrev pub type_of_tests : List Capability → BoolType
type_of_tests [] = only_true
type_of_tests (k ∷ ks) = any_bool

-- the judgement of tests that give these facts, one after the other
abbrev pub tests_judged : List Capability → Judgement
tests_judged ks = record { type = bool_type (type_of_tests ks); facts = facts_among ks }

-- and of those together with the rest
abbrev pub with_rest : List Capability → Option Judgement → Option Judgement
with_rest ks rest = option_and_then (λ r. conjoined (type_of_tests ks) (facts_among ks) r.type r.facts) rest

-- what is left after the next step
abbrev pub stepped : Setting → Text → Tree → Ty → Text → List Text → Option Judgement
stepped s a e t b bs = option_and_then (path_judged s b bs (get_attr e a)) (step_type s t a)

-- the judgement of the whole path by the way gone and what is left, before the next test and after it
abbrev pub judged_on : Setting → Way → Text → List Text → Option Judgement
judged_on s w a bs = with_rest w.facts.items (path_judged s a bs (tree_of w.at.value) (type_of w.ty))

abbrev pub judged_past : Setting → Way → Text → Text → List Text → Option Judgement
judged_past s w a b bs = with_rest w.facts.items (stepped s a (tree_of w.at.value) (type_of w.ty) b bs)

-- The facts are along the path, and of expressions from which attributes lead to this one.
abbrev pub Lead : Tree → List Capability → Type 0
Lead u ks = AlongPath ks × AllByRecursion (LeadsTo u) ks

abbrev pub IsOnPath : Way → Type 0
IsOnPath w = Lead (tree_of w.at.value) w.facts.items

-- the same after the next step
abbrev pub IsPast : Way → Text → Type 0
IsPast w a = Lead (get_attr (tree_of w.at.value) a) w.facts.items

-- the way with the fact of the next test
abbrev pub IsNoted : Way → Text → Way → Type 0
IsNoted w a v = (tree_of v.at.value ≡ tree_of w.at.value) × (type_of v.ty ≡ type_of w.ty)
    × (k : Capability) × (capability_of k ≡ (tree_of w.at.value, attribute_part a)) × (v.facts.items ≡ w.facts.items ++ k ∷ [])

-- A test is passed: whatever follows, the judgement of the whole path is this one, or that of the way gone on.
abbrev pub PassesTo : Setting → (Text → List Text → Option Judgement) → Passed → Type 0
PassesTo s whole (Done j) = (b : Text) (bs : List Text) → option_map judgement_seen j ≡ whole b bs
PassesTo s whole (On v) = ((b : Text) (bs : List Text) → judged_on s v b bs ≡ whole b bs) × IsOnPath v

-- from the way gone to this attribute, before its test and after it
abbrev pub PassesOn : Setting → Way → Text → Passed → Type 0
PassesOn s w a = PassesTo s (λ b bs. judged_on s w a (b ∷ bs))

abbrev pub PassesPast : Setting → Way → Text → Passed → Type 0
PassesPast s w a = PassesTo s (judged_past s w a)
