use Rattle.std.proofs.Common.{◌≡◌, drop}
use Rattle.std.specs.List.{list_all}
use Rattle.cedar_expr_model.specs.Canonical.{is_member}
use Rattle.cedar_expr_values.specs.Values.{bare, bares}
use Rattle.cedar_expr_values.proofs.value.Set.has_each.Given as goal

abbrev pub invariant-loop-value : goal.invariant-loop-value
invariant-loop-value g l =
    list_all (λ v. is_member (bare g.X.ExtensionValue.seen v) (bares g.X.ExtensionValue.seen l.self)) l.values
    ≡ list_all (λ v. is_member (bare g.X.ExtensionValue.seen v) (bares g.X.ExtensionValue.seen l.self)) (drop l.value-index l.values)
