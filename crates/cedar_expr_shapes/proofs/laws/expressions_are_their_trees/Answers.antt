-- Data that say nothing are all equal.
use denote.Builtin.{unit}
use Rattle.std.proofs.Common.{true, refl, ◌∙◌}
use Rattle.std.specs.contracts.cmp.PartialEq.TheBound as PartialEqLaws
use Rattle.std.specs.contracts.prelude.UnitEq.TheImpl as unit_equivalence
use Rattle.std.specs.contracts.prelude.UnitHash.TheImpl as unit_hash
use Rattle.std.specs.contracts.prelude.UnitPartialEq.TheImpl as unit_equality
use Rattle.cedar_expr_trees.specs.contracts.expr.ExprHash.TheImpl.Laws as hashing
use Rattle.cedar_expr_trees.specs.contracts.expr.ExprPartialEq.TheImpl.Laws as equality
use Rattle.cedar_expr_shapes.proofs.Levels.{expr_by, kind_by, kind_is}
use Rattle.cedar_expr_shapes.proofs.SameTrees.{equal_trees}
use Rattle.cedar_expr_shapes.proofs.laws.expressions_are_their_trees.Goals as goal

-- the laws of their equality
same : PartialEqLaws.Lawful unit unit_equality.ghosts unit_equality.dict
same = record { laws = record { symm = λ x y. refl; trans = λ x y z e f. refl } }

pub returns-clause-equality : goal.returns-clause-equality
returns-clause-equality c =
    let D = unit_equality.ghosts in
    let d = unit_equality.dict in
    equal_trees (λ x y. true) (kind_by unit D d) (expr_by unit D d) (equality.is unit D d same) (kind_is unit D d same) (λ x y. refl)

pub returns-clause-hash : goal.returns-clause-hash
returns-clause-hash c = λ e f h.
    hashing.respects_eq-law unit unit_hash.ghosts unit_hash.dict unit_equivalence.ghosts unit_equivalence.dict unit_equality.ghosts unit_equality.dict
    record { respects_eq = λ x y e. refl } record { laws = record { refl = λ x. refl; symm = λ x y. refl; congr = λ x y z e. refl } } same e f
    (returns-clause-equality c e f ∙ h)
