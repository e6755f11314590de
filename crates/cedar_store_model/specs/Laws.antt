-- What the laws of the meaning say.
-- Rule: the meaning; what is known; expressions (docs/RULES.md).
use Rattle.std.specs.Prelude.{◌≡◌, ◌↔◌, Some, Bool, true, false}
use Rattle.std.specs.List.{list_any}
use Rattle.cedar_expr_model.specs.Uid.{Uid}
use Rattle.cedar_expr_model.specs.Value.{V}
use Rattle.cedar_expr_model.specs.Tree.{Tree, both, either, binary, get_attr, has_attr, has_path}
use Rattle.cedar_expr_model.specs.Parts.{subexpressions}
use Rattle.cedar_expr_model.specs.Builder.{conjunction, disjunction, built, tree_builder}
use Rattle.cedar_store_model.specs.Outcome.{Res}
use Rattle.cedar_store_model.specs.World.{World, Found, not_loaded}
use Rattle.cedar_store_model.specs.Meaning.{Means, outcome_of}
use Rattle.cedar_store_model.specs.Looks.{Looks, looks_up}
use Rattle.cedar_store_model.specs.Knowledge.{IsWhole}
use Rattle.cedar_store_model.specs.OfLaws.Extends.{Extends}

-- an outcome is what an expression means exactly where the function gives it
abbrev pub MeaningIsAFunction : Type 0
MeaningIsAFunction = (w : World) (t : Tree) (r : Res V) → Means w t r ↔ (outcome_of w t ≡ Some r)

-- no expression means two outcomes
abbrev pub OneOutcome : Type 0
OneOutcome = (w : World) (t : Tree) (r s : Res V) → Means w t r → Means w t s → r ≡ s

-- what is known gives the expression an outcome
abbrev pub IsGrounded : World → Tree → Type 0
IsGrounded k t = (r : Res V) × Means k t r

-- where everything is known each expression means an outcome
abbrev pub WholeWorldsAnswer : Type 0
WholeWorldsAnswer = (w : World) → IsWhole w → (t : Tree) → IsGrounded w t

-- what an expression means by what is known, it means where more is known
abbrev pub MoreKeepsMeaning : Type 0
MoreKeepsMeaning = (k w : World) → Extends k w → (t : Tree) (r : Res V) → Means k t r → Means w t r

-- what an expression looks up for its outcome is loaded
abbrev pub LookupsAreLoaded : Type 0
LookupsAreLoaded = (w : World) (t : Tree) → IsGrounded w t → (u : Uid) → Looks w t u → w.store u ≡ not_loaded → ⊥

-- the world with another store
abbrev pub with_store : World → (Uid → Found V) → World
with_store w store = record w { store = store }

-- a store that answers alike for what is looked up gives the same outcomes
abbrev pub OnlyLookupsMatter : Type 0
OnlyLookupsMatter = (w : World) (store : Uid → Found V) (t : Tree) → ((u : Uid) → Looks w t u → store u ≡ w.store u) → (r : Res V) → Means w t r ↔ Means (with_store w store) t r

-- the expression looks something up at the values of its parts
abbrev pub is_dereference : Tree → Bool
is_dereference (binary o a b) = looks_up o
is_dereference (get_attr t a) = true
is_dereference (has_attr t a) = true
is_dereference (has_path t a bs) = true
is_dereference t = false

-- whether the expression, or a part of it, looks something up
abbrev pub has_dereference : Tree → Bool
has_dereference t = list_any is_dereference (subexpressions t)

-- an expression without a dereference looks nothing up
abbrev pub DereferencesLook : Type 0
DereferencesLook = (w : World) (t : Tree) → has_dereference t ≡ false → (u : Uid) → Looks w t u → ⊥

-- what is built of an expression means what the expression means
abbrev pub BuiltMeansTheSame : Type 0
BuiltMeansTheSame = (w : World) (t : Tree) (r : Res V) → Means w (built tree_builder t) r ↔ Means w t r

-- the conjunction, and the disjunction, that is built means what the two sides mean
abbrev pub ConjunctionIsBoth : Type 0
ConjunctionIsBoth = (w : World) (a b : Tree) (r : Res V) → Means w (conjunction a b) r ↔ Means w (both a b) r

abbrev pub DisjunctionIsEither : Type 0
DisjunctionIsEither = (w : World) (a b : Tree) (r : Res V) → Means w (disjunction a b) r ↔ Means w (either a b) r

-- what is looked up by what is known is looked up where more is known
abbrev pub MoreKeepsLookups : Type 0
MoreKeepsLookups = (k w : World) → Extends k w → (t : Tree) (u : Uid) → Looks k t u → Looks w t u
