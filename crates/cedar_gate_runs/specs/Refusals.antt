-- Refusals of a session by their numbers. Out of memory says nothing.
-- Rule: refusals of a session (docs/RULES.md).
use Rattle.std.specs.Prelude.{◌≡◌}
use Rattle.cedar_expr_model.specs.Name.{Text}
use Rattle.cedar_expr_model.specs.Made.{Made}
use Rattle.cedar_gate_model.specs.Session.{Setup, State, Supplied, SupplyRefusal, supply_number, SupplyFault, BindRefusal, bind_number, BindFault, AnswerRefusal, answer_number, AnswerFault}
use Rattle.cedar_gate_runs.specs.declared.sessions.Refusal.{Refusal}
use Rattle.cedar_gate_runs.specs.declared.sessions.Refusal.TheVariants.{OutOfMemory, Numbered}

abbrev pub IsSupplyRefusal : Setup → State → Supplied → Refusal → Type 0
IsSupplyRefusal x s ps OutOfMemory = Unit {0}
IsSupplyRefusal x s ps (Numbered n) = (f : SupplyRefusal) × (n ≡ supply_number f) × SupplyFault x s ps f

abbrev pub IsBindRefusal : Setup → State → Text → Made → Refusal → Type 0
IsBindRefusal x s n m OutOfMemory = Unit {0}
IsBindRefusal x s n m (Numbered k) = (f : BindRefusal) × (k ≡ bind_number f) × BindFault x s n m f

abbrev pub IsAnswerRefusal : Setup → State → Refusal → Type 0
IsAnswerRefusal x s OutOfMemory = Unit {0}
IsAnswerRefusal x s (Numbered n) = (f : AnswerRefusal) × (n ≡ answer_number f) × AnswerFault x s f
