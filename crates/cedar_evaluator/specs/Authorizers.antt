-- What an authorizer is made of.
-- Rule: partial responses (docs/RULES.md).
use Rattle.std.specs.Prelude.{ℕ}
use Rattle.cedar_evaluator.specs.declared.authorizing.Authorizer.{Authorizer}

-- its table, and its limit on the depth
abbrev pub asks_table : {T : Type 0} → Authorizer T → T
asks_table a = a.table.now

abbrev pub keeps_limit : {T : Type 0} → Authorizer T → ℕ
keeps_limit a = a.limit
