-- Calls that answer as their table does.
-- Rule: extension functions; partial evaluation (docs/RULES.md).
use Rattle.std.specs.Prelude.{◌≡◌, List, map}
use Rattle.cedar_expr_model.specs.Name.{Name}
use Rattle.cedar_expr_model.specs.Made.{Made, bare}
use Rattle.cedar_expr_model.specs.Table.{Called, gives, fails, leaves}
use Rattle.cedar_expr_model.specs.OfLaws.Fair.{IsTaken}
use Rattle.cedar_evaluator_model.specs.Scope.{MadeCalled, makes, faults, leaves_unknown, Scope}

-- the answer with the value alone
abbrev pub bare_called : MadeCalled → Called
bare_called (makes m) = gives (bare m)
bare_called (faults e) = fails e
bare_called (leaves_unknown n) = leaves n

-- the calls answer as the table does, on arguments that their functions take
abbrev pub Agrees : Scope → Type 0
Agrees s = (f : Name) (ms : List Made) → IsTaken s.table f (map bare ms) → bare_called (s.calls f ms) ≡ s.table.answers f (map bare ms)
