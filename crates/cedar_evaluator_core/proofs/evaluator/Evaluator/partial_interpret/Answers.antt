use Rattle.cedar_expr_trees.specs.Trees.{tree_of}
use Rattle.cedar_store_parts.specs.Parts.{bindings_of}
use Rattle.cedar_evaluator_model.specs.Evaluation.{evaluated}
use Rattle.cedar_evaluator_model.proofs.NoLimits.{no_limit}
use Rattle.cedar_evaluator_model.proofs.Owed as laws
use Rattle.cedar_evaluator_model.proofs.Represented.{all_well}
use Rattle.cedar_evaluator_model.proofs.Residuals.Node.{residuals_stand, residuals_fit}
use Rattle.cedar_evaluator_operators.specs.Scopes.{scope_of}
use Rattle.cedar_evaluator_reads.specs.Scopes.{scope_seen}
use Rattle.cedar_evaluator_core.specs.Evaluators.{limit_of, scope_in, table_in}
use Rattle.cedar_evaluator_core.proofs.Concluded.{not_limit}
use Rattle.cedar_evaluator_core.proofs.Canonical.{values_known}
use Rattle.cedar_evaluator_core.proofs.Stood.{stands_in, outcome_in}
use Rattle.cedar_evaluator_core.proofs.evaluator.Evaluator.partial_interpret.Goals as goal

pub returns-clause-left : goal.returns-clause-left
unfolding scope_of scope_seen
returns-clause-left g c = λ fs h. c.walk.ensures.leaves fs h

pub returns-clause-no_limit : goal.returns-clause-no_limit
returns-clause-no_limit g c = λ fs h k. not_limit _ c.walk.result (returns-clause-left g c fs h) (no_limit _ k.agrees k.known _ _ k.bound k.within)

pub returns-clause-stands : goal.returns-clause-stands
returns-clause-stands g c = λ fs h w k.
    let s = scope_in g.T.FunctionTable.table fs c.args.self.now (bindings_of c.args.slots.now) in
    let n = limit_of c.args.self.now in
    let t = tree_of {T = Unit} c.args.e.now in
    let values = values_known c.args.self.now (bindings_of c.args.slots.now) g.T.FunctionTable.table fs (g.met.T.FunctionTable.makes_values (table_in c.args.self.now) fs.calls h) in
    let made = all_well s values k.represented in
    stands_in w t (evaluated s n t) c.walk.result (returns-clause-left g c fs h) (residuals_stand s k.agrees made n t w k.completes k.fits) (λ r e. residuals_fit s k.agrees made n t r e w k.completes k.fits)

pub returns-clause-owed : goal.returns-clause-owed
returns-clause-owed g c = λ fs h k r m.
    let s = scope_in g.T.FunctionTable.table fs c.args.self.now (bindings_of c.args.slots.now) in
    let n = limit_of c.args.self.now in
    let t = tree_of {T = Unit} c.args.e.now in
    outcome_in (evaluated s n t) r c.walk.result (returns-clause-left g c fs h) (laws.owed s k.agrees k.unbound n t k.fits k.within r m)
