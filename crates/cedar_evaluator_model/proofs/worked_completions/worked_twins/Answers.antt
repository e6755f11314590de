use Rattle.std.proofs.Common.{◌≡◌, ◌∙◌, [], ◌∷◌, codes, Some, sym, ap, subst}
use Rattle.cedar_expr_model.specs.Value.{prim, entity}
use Rattle.cedar_expr_model.specs.Uid.{uid_text}
use Rattle.cedar_store_model.specs.World.{World, not_loaded}
use Rattle.cedar_evaluator_model.specs.OfLaws.Completing.{FoundMeans, Completes}
use Rattle.cedar_evaluator_model.specs.Scope.{Scope}
use Rattle.cedar_evaluator_model.specs.WorkedCompletions.{twin, other_twin}
use Rattle.cedar_evaluator_model.proofs.worked_completions.worked_twins.Goals as goal

twins : (w : World) (s : Scope) → s.store twin ≡ not_loaded → s.store other_twin ≡ not_loaded → Completes w s → ⊥
twins w s a b c =
    let one : w.unknowns (uid_text twin) ≡ Some (prim (entity twin)) = subst (λ f. FoundMeans w twin f (w.store twin)) a (c.store twin) in
    let two : w.unknowns (uid_text twin) ≡ Some (prim (entity other_twin)) = subst (λ f. FoundMeans w other_twin f (w.store other_twin)) b (c.store other_twin) in
    let both : Some (prim (entity twin)) ≡ Some (prim (entity other_twin)) = sym one ∙ two in
    let path : codes "a" ∷ [] ≡ [] = (let k : twin ≡ other_twin = cc in ap (λ u. u.kind.path) k) in
    cc

pub returns-clause-never : goal.returns-clause-never
returns-clause-never c = twins
