use Rattle.std.proofs.Common.{[], ◌∷◌, refl, codes, Some, None, pos, ap, sym, ◌∙◌, ◌≡◌}
use Rattle.cedar_expr_model.specs.Value.{text, prim, long}
use Rattle.cedar_evaluator_model.specs.Worked.{user_b, later, later_function, with_value, made_number, scope, unknown_u}
use Rattle.cedar_evaluator_model.proofs.worked_completions.worked_knowledge.Goals as goal
use Rattle.cedar_evaluator_model.specs.OfLaws.Whole.{BoundTo}
use Rattle.cedar_expr_model.proofs.Gathering.{each_in}
use Rattle.cedar_expr_model.specs.Tree.{unknown, long_core, bool_core}
use Rattle.cedar_expr_model.specs.Substitution.{core_type_of}

-- the call `later("u")` leaves the unknown `u`
pub returns-clause-leaves : goal.returns-clause-leaves
returns-clause-leaves c h = h later (prim (text (codes "u")) ∷ []) (codes "u") (later_function, refl, refl, refl) refl

-- `User::"b"` isn't loaded
pub returns-clause-some_not : goal.returns-clause-some_not
returns-clause-some_not c h = h user_b

pub returns-clause-bound : goal.returns-clause-bound
returns-clause-bound c = (each_in (BoundTo (with_value (codes "u") (made_number 7))) (unknown (codes "u") (Some long_core))).1 (_, refl, refl)

pub returns-clause-misfit : goal.returns-clause-misfit
returns-clause-misfit c h =
    let b = (each_in (BoundTo (with_value (codes "u") (made_number 7))) (unknown (codes "u") (Some bool_core))).0 h in
    let v : prim (long (pos 7)) ≡ b.0 = let e = b.1 in cc in
    let k : bool_core ≡ long_core = b.2 ∙ ap core_type_of (sym v) in
    cc

pub returns-clause-open_ : goal.returns-clause-open_
returns-clause-open_ c h = let b = (each_in (BoundTo scope) unknown_u).0 h in let e : None ≡ Some b.0 = b.1 in cc
