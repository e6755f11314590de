use Rattle.std.proofs.Common.{◌≡◌, IfOk, IfErr, Ok, subst, sym, ap, ◌∙◌}
use Rattle.std.specs.Prelude.{option_map}
use Rattle.std.specs.HashMap.{get_by}
use Rattle.std.specs.Rc.{rc_str_bytes}
use Rattle.std.specs.Str.{bytes_eq}
use Rattle.cedar_expr_values.specs.Values.{made}
use Rattle.cedar_expr_trees.specs.Unknowns.{unknown_of}
use Rattle.cedar_expr_trees.specs.Trees.{tree_of}
use Rattle.cedar_expr_builders.specs.Refusing.{built_or_refused}
use Rattle.cedar_expr_substitution.specs.Outcome.{Refuses}
use Rattle.cedar_expr_substitution.specs.Bound.{bound_by, placed_by}
use Rattle.cedar_expr_substitution.proofs.Placed.{bound_placed, free_placed}
use Rattle.cedar_expr_substitution.proofs.bound.BoundBuildUnknown.build_unknown.Goals as goal

pub returns-in_ok-e-in-Some-clause-made : goal.returns-in_ok-e-in-Some-clause-made
returns-in_ok-e-in-Some-clause-made g c =
    let seen = g.X.ExtensionValue.seen in
    let u = unknown_of c.args.unknown.now in
    let found = ap (λ n. option_map (made seen) (get_by (λ k. bytes_eq n (rc_str_bytes k)) c.args.self.now.bindings.now)) (sym c.as_str.ensures.value) ∙ ap (option_map (made seen)) (sym c.in-Some.ensures.value) in
    let is = bound_placed (bound_by seen c.args.self.now) u.name u.annotation (made seen c.in-Some.value.now) (tree_of c.in_ok-e-in-Some.e) found c.in_ok-e-in-Some.ensures.tree in
    subst (λ t. IfOk c.build_with.result (λ r. built_or_refused g.B.ExprBuilder.steps g.B.ExprBuilder.refuses t ≡ Ok (g.B.ExprBuilder.means r))) (sym is) c.build_with.ensures.made

pub returns-in_ok-e-in-Some-clause-refused : goal.returns-in_ok-e-in-Some-clause-refused
returns-in_ok-e-in-Some-clause-refused g c =
    let seen = g.X.ExtensionValue.seen in
    let u = unknown_of c.args.unknown.now in
    let found = ap (λ n. option_map (made seen) (get_by (λ k. bytes_eq n (rc_str_bytes k)) c.args.self.now.bindings.now)) (sym c.as_str.ensures.value) ∙ ap (option_map (made seen)) (sym c.in-Some.ensures.value) in
    let is = bound_placed (bound_by seen c.args.self.now) u.name u.annotation (made seen c.in-Some.value.now) (tree_of c.in_ok-e-in-Some.e) found c.in_ok-e-in-Some.ensures.tree in
    subst (λ t. IfErr c.build_with.result (λ f. Refuses g.B.ExprBuilder.says (built_or_refused g.B.ExprBuilder.steps g.B.ExprBuilder.refuses t) f)) (sym is) c.build_with.ensures.refused

pub returns-in-None-clause-made : goal.returns-in-None-clause-made
returns-in-None-clause-made g c =
    let seen = g.X.ExtensionValue.seen in
    let u = unknown_of c.args.unknown.now in
    let found = ap (λ n. option_map (made seen) (get_by (λ k. bytes_eq n (rc_str_bytes k)) c.args.self.now.bindings.now)) (sym c.as_str.ensures.value) ∙ ap (option_map (made seen)) (sym c.in-None.ensures.value) in
    let is = free_placed (bound_by seen c.args.self.now) u.name u.annotation found in
    subst (λ t. IfOk c.build_unknown.result (λ r. built_or_refused g.B.ExprBuilder.steps g.B.ExprBuilder.refuses t ≡ Ok (g.B.ExprBuilder.means r))) (sym is) c.build_unknown.ensures.made

pub returns-in-None-clause-refused : goal.returns-in-None-clause-refused
returns-in-None-clause-refused g c =
    let seen = g.X.ExtensionValue.seen in
    let u = unknown_of c.args.unknown.now in
    let found = ap (λ n. option_map (made seen) (get_by (λ k. bytes_eq n (rc_str_bytes k)) c.args.self.now.bindings.now)) (sym c.as_str.ensures.value) ∙ ap (option_map (made seen)) (sym c.in-None.ensures.value) in
    let is = free_placed (bound_by seen c.args.self.now) u.name u.annotation found in
    subst (λ t. IfErr c.build_unknown.result (λ f. Refuses g.B.ExprBuilder.says (built_or_refused g.B.ExprBuilder.steps g.B.ExprBuilder.refuses t) f)) (sym is) c.build_unknown.ensures.refused
