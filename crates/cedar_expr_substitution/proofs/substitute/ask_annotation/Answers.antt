use Rattle.std.proofs.Common.{◌≡◌, Some, sym, ap, ◌∙◌}
use Rattle.std.specs.Prelude.{option_map}
use Rattle.std.specs.HashMap.{get_by}
use Rattle.std.specs.Rc.{rc_str_bytes}
use Rattle.std.specs.Str.{bytes_eq}
use Rattle.cedar_expr_model.specs.Substitution.{Mismatch}
use Rattle.cedar_expr_values.specs.Types.{core_of}
use Rattle.cedar_expr_values.specs.Values.{made}
use Rattle.cedar_expr_trees.specs.Unknowns.{unknown_of}
use Rattle.cedar_expr_substitution.specs.Bound.{bindings_of}
use Rattle.cedar_expr_substitution.proofs.Typed.{fits, differs}
use Rattle.cedar_expr_substitution.proofs.substitute.ask_annotation.Goals as goal

pub returns-then-same-clause-fits : goal.returns-then-same-clause-fits
returns-then-same-clause-fits g c =
    let seen = g.X.ExtensionValue.seen in
    let u = unknown_of c.args.u.now in
    let found = ap (λ n. option_map (made seen) (get_by (λ k. bytes_eq n (rc_str_bytes k)) c.args.bindings.now)) (sym c.as_str.ensures.value) ∙ ap (option_map (made seen)) (sym c.in-Some-Some.ensures.value) in
    fits u.name u.annotation (bindings_of seen c.args.bindings.now u.name) (core_of c.in-Some-Some.expected) (core_of c.in_ok-actual.actual) (made seen c.in-Some-Some.value.now) (ap (option_map core_of) c.in-Some-Some.is-0) found c.in_ok-actual.ensures (sym c.same.ensures ∙ c.if-same.true)

pub returns-clause-refused : goal.returns-clause-refused
returns-clause-refused g c =
    let seen = g.X.ExtensionValue.seen in
    let u = unknown_of c.args.u.now in
    let found = ap (λ n. option_map (made seen) (get_by (λ k. bytes_eq n (rc_str_bytes k)) c.args.bindings.now)) (sym c.as_str.ensures.value) ∙ ap (option_map (made seen)) (sym c.in-Some-Some.ensures.value) in
    differs u.name u.annotation (bindings_of seen c.args.bindings.now u.name) (core_of c.in-Some-Some.expected) (core_of c.in_ok-actual.actual) (made seen c.in-Some-Some.value.now) (ap (option_map core_of) c.in-Some-Some.is-0) found c.in_ok-actual.ensures (sym c.same.ensures ∙ c.if-same.false)
    ∙ ap (λ (n : _). Some (record { name = n; annotation = core_of c.in-Some-Some.expected; actual = core_of c.in_ok-actual.actual })) (sym c.in_ok-clone.ensures.cases)
    ∙ ap (λ (a : _). Some (record { name = rc_str_bytes c.in_ok-clone.field-0; annotation = a; actual = core_of c.in_ok-actual.actual })) (sym c.in_ok-clone-2.ensures.cases)
