use Rattle.std.proofs.Common.{◌≡◌, IfOk, subst, sym, ap, ◌∙◌}
use Rattle.std.specs.Prelude.{option_map}
use Rattle.std.specs.HashMap.{get_by}
use Rattle.std.specs.Rc.{rc_str_bytes}
use Rattle.std.specs.Str.{bytes_eq}
use Rattle.cedar_expr_values.specs.Values.{made}
use Rattle.cedar_expr_trees.specs.Unknowns.{unknown_of}
use Rattle.cedar_expr_trees.specs.Trees.{tree_of}
use Rattle.cedar_expr_substitution.specs.Bound.{bindings_of}
use Rattle.cedar_expr_substitution.proofs.Walked.{value_written}
use Rattle.cedar_expr_substitution.proofs.bound.value_of.Goals as goal

pub returns-in-Some : goal.returns-in-Some
returns-in-Some g c =
    let seen = g.X.ExtensionValue.seen in
    let u = unknown_of c.args.u.now in
    let found = ap (λ n. option_map (made seen) (get_by (λ k. bytes_eq n (rc_str_bytes k)) c.args.bindings.now)) (sym c.as_str.ensures.value) ∙ ap (option_map (made seen)) (sym c.in-Some.ensures.value) in
    value_written (bindings_of seen c.args.bindings.now) u.name u.annotation (made seen c.in-Some.value.now) c.from_value.result found c.from_value.ensures.tree
