-- That an evaluation stops.
-- Rule: what a bundle reads as; restricted expressions (docs/RULES.md).
use Rattle.std.specs.Prelude.{◌≡◌}
use Rattle.cedar_evaluator_model.specs.Scope.{Left, stopped, Stop}

-- the evaluation stops
abbrev pub IsStopped : Left → Type 0
IsStopped l = (s : Stop) × (l ≡ stopped s)
