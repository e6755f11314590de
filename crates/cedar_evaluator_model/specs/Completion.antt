-- When a world in which everything is known completes what an evaluation knows.
-- Rule: completions (docs/RULES.md).
use Rattle.std.specs.Prelude.{Option, IfSome}
use Rattle.cedar_expr_model.specs.Uid.{Uid}
use Rattle.cedar_expr_model.specs.Value.{V}
use Rattle.cedar_expr_model.specs.Tree.{CoreType, SlotId, Tree}
use Rattle.cedar_expr_model.specs.Unknowns.{EachUnknown}
use Rattle.cedar_expr_model.specs.Substitution.{IsOfType}
use Rattle.cedar_store_model.specs.Outcome.{val}
use Rattle.cedar_store_model.specs.World.{World}
use Rattle.cedar_store_model.specs.Meaning.{Means}

-- a value, where there is one, of the annotation's type, where there is one
abbrev pub Fits : Option CoreType → Option V → Type 0
Fits a found = IfSome found (IsOfType a)

-- each annotated unknown of the expression means a value of that type
abbrev pub FitsAnnotations : World → Tree → Type 0
FitsAnnotations w t = EachUnknown (λ n a. Fits a (w.unknowns n)) t

-- The expression means the value there, whatever a policy's slots are bound to, and its unknowns fit.
abbrev pub PartIs : World → Tree → V → Type 0
PartIs w t v = ((x : SlotId → Option Uid) → Means (record w { slots = x }) t (val v)) × FitsAnnotations w t
