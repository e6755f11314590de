use Rattle.std.proofs.Common.{◌≡◌, map}
use Rattle.cedar_expr_model.specs.Made.{made_prim}
use Rattle.cedar_expr_leaves.specs.Literals.{literal_of}
use Rattle.cedar_expr_values.specs.Values.{made}
use Rattle.cedar_expr_values.proofs.value.literal_values.Given as goal

abbrev pub invariant-loop-literal : goal.invariant-loop-literal
invariant-loop-literal g l = map (made g.X.ExtensionValue.seen) l.values.items ≡ map (λ p. made_prim (literal_of p)) l.yielded
