use Rattle.std.proofs.Common.{map, sym, ap, ◌∙◌}
use Rattle.cedar_expr_values.specs.Kept.{KeptSet}
use Rattle.cedar_expr_values.specs.Falls.{set_is}
use Rattle.cedar_expr_values.specs.Values.{made, made_list}
use Rattle.cedar_expr_values.proofs.value.Set.authoritative.Goals as goal

pub returns : goal.returns
returns g c =
    let seen = g.X.ExtensionValue.seen in
    sym (ap (λ (k : KeptSet). k.0) c.self.view_is)
    ∙ set_is seen c.self.inside c.self.invariant.0
    ∙ ap (λ vs. made_list (map (made seen) vs)) (sym (c.as_slice.ensures.value ∙ ap (λ m. m.values.items) c.deref.ensures))
