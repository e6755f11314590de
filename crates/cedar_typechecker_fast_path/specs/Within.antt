-- What is told of an expression without the tree of the types of its parts.
-- Rule: typing; levels (docs/RULES.md).
use Rattle.std.specs.Prelude.{◌≡◌, ◌≤◌, ℕ, List, [], map, Option, Some, None, MatchOption}
use Rattle.std.specs.declared.alloc.Global.{Global}
use Rattle.std.specs.declared.vec.Vec.{Vec}
use Rattle.cedar_expr_model.specs.Builder.{trees}
use Rattle.cedar_expr_model.specs.Name.{Text}
use Rattle.cedar_expr_model.specs.Table.{Table}
use Rattle.cedar_expr_model.specs.Tree.{Tree}
use Rattle.cedar_expr_trees.specs.Trees.{tree_of}
use Rattle.cedar_expr_trees.specs.declared.expr.Expr.{Expr}
use Rattle.cedar_schema_model.specs.Schema.{Schema}
use Rattle.cedar_schema_types.specs.Types.{type_of}
use Rattle.cedar_schema_types.specs.declared.types.Type.{«Type» as CodeType}
use Rattle.cedar_typechecker_environments.specs.Facts.{facts_of}
use Rattle.cedar_typechecker_environments.specs.Settings.{setting_of}
use Rattle.cedar_typechecker_environments.specs.declared.facts.CapabilitySet.{CapabilitySet}
use Rattle.cedar_typechecker_environments.specs.declared.setting.World.{World}
use Rattle.cedar_typechecker_model.specs.Facts.{Facts}
use Rattle.cedar_typechecker_model.specs.Levels.{violations, violations_among, target}
use Rattle.cedar_typechecker_model.specs.Rules.{Setting}
use Rattle.cedar_typechecker_model.specs.Typing.{Judgement, judgement, judgements}
use Rattle.cedar_typechecker_fast_path.specs.declared.answers.Within.{Within}

-- At most so many steps lead to what any fields lead to from the expression, and nothing is violated on the way. Where none is given nothing is said.
abbrev pub LeadsWithin : ℕ → Setting → Facts → Tree → Option ℕ → Type 0
LeadsWithin n s known t None = Unit {0}
LeadsWithin n s known t (Some k) = (path : List Text) → ((target n s known path t).steps ≤ k) × ((target n s known path t).found ≡ [])

-- The expression is judged so, nothing in it reaches further than the level, and at most so many steps lead to what it is.
pub record StaysWithin (n : ℕ) (s : Setting) (known : Facts) (t : Tree) (j : Judgement) (k : Option ℕ) : Type 0 where
  pub judged : judgement s known t ≡ Some j
  pub within : violations n s known t ≡ []
  pub leads : LeadsWithin n s known t k

-- the judgement that is told
abbrev pub judgement_told : Within → Judgement
judgement_told x = record { type = type_of x.ty; facts = facts_of x.known }

-- what is told, if anything, is so
abbrev pub IsWithinIfAny : ℕ → Setting → Facts → Tree → Option Within → Type 0
IsWithinIfAny n s known t o = MatchOption o (Unit {0}) (λ x. StaysWithin n s known t (judgement_told x) x.steps)

-- Of each expression that is judged so, has no violation at a level, and to which at most so many steps lead, this may be told.
abbrev pub TellsOf : Option Judgement → Option ℕ → Option Within → Type 0
TellsOf j k o = (n : ℕ) (s : Setting) (known : Facts) (t : Tree) → judgement s known t ≡ j → violations n s known t ≡ [] → LeadsWithin n s known t k → IsWithinIfAny n s known t o

-- expressions in a row: their types, and nothing in them reaches further than the level
pub record StayWithin (n : ℕ) (s : Setting) (known : Facts) (ts : List Tree) (us : List CodeType) : Type 0 where
  pub judged : judgements s known (trees ts) ≡ Some (map type_of us)
  pub within : violations_among n s known (trees ts) ≡ []

module _ {S : Type 0} (schema : S → Schema) (table : S → Table) where
  abbrev pub IsWithin : World S → CapabilitySet → ℕ → Tree → Option Within → Type 0
  IsWithin w known n t o = IsWithinIfAny n (setting_of schema table w) (facts_of known) t o

  abbrev pub AreWithin : {T : Type 0} → World S → CapabilitySet → ℕ → List (Expr T) → Option (Vec CodeType Global) → Type 0
  AreWithin w known n es o = MatchOption o (Unit {0}) (λ v. StayWithin n (setting_of schema table w) (facts_of known) (map tree_of es) v.items)
