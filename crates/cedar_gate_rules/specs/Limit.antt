-- The limit on nesting as a number.
use Rattle.std.specs.Prelude.{ℕ}
use Rattle.cedar_gate_rules.specs.declared.nest_limit.NestLimit.{NestLimit}

abbrev pub levels_of : NestLimit → ℕ
levels_of limit = limit.levels
