use Rattle.std.proofs.Common.{map, ap, ◌∙◌}
use Rattle.cedar_expr_values.specs.Members.{rising_stays}
use Rattle.cedar_expr_values.specs.Values.{made, made_list, members_as_made}
use Rattle.cedar_expr_values.proofs.value.Set.of_members.Goals as goal

pub returns : goal.returns
returns g c =
    let seen = g.X.ExtensionValue.seen in
    ap (λ m. members_as_made (map (made seen) m.values.items)) c.in_ok-members.ensures.ok ∙ ap made_list (rising_stays (map (made seen) c.args.members.items) c.requires)
