-- Where the evaluation of a restricted expression stops.
use Rattle.std.proofs.Common.{◌≡◌, true, refl}
use Rattle.cedar_evaluator_model.specs.Scope.{Left, value_left, residual, stopped}
use Rattle.cedar_evaluator_restricted_exprs.specs.Lefts.{is_stopped}
use Rattle.cedar_gate_bundles.specs.Values.{IsStopped}

pub stops : (l : Left) → is_stopped l ≡ true → IsStopped l
stops (stopped s) h = (s, refl)
stops (value_left m) h = absurd (cc)
stops (residual t) h = absurd (cc)
