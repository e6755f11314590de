-- Sessions that opened stay so.
use Rattle.std.specs.Prelude.{[]}
use Rattle.cedar_expr_model.specs.Name.{Text}
use Rattle.cedar_expr_model.specs.Made.{Made}
use Rattle.cedar_evaluator_model.specs.OfLaws.WellMade.{IsWellMade}
use Rattle.cedar_evaluator_model.specs.Scope.{Context, closed, residual_fields, unknown_context}
use Rattle.cedar_gate_model.specs.Session.{Setup, State, at_start, ContextFails, with_bound, OpenRefusal, OpenFault, BindRefusal, BindFault, not_open, against_annotation, no_entity_or_record, context_fails}
use Rattle.cedar_gate_model.specs.RunsAnswer.{IsOpened}

module _ (x : Setup) where
  pub opened_at_start : ((f : OpenRefusal) → OpenFault x.start f → ⊥) → IsOpened x at_start
  opened_at_start h = record { opened = h; bound = tt }

  -- what was asked for changes no binding
  fails_same : (s : State) (n : Text) (m : Made) (k : Context) → ContextFails x.functions (with_bound (record { bound = s.bound; asked = [] }) n m) k → ContextFails x.functions (with_bound s n m) k
  fails_same s n m (closed fs) h = h
  fails_same s n m (residual_fields fs) h = h
  fails_same s n m unknown_context h = h

  fault_same : (s : State) (n : Text) (m : Made) (f : BindRefusal) → BindFault x (record { bound = s.bound; asked = [] }) n m f → BindFault x s n m f
  fault_same s n m not_open h = h
  fault_same s n m against_annotation h = h
  fault_same s n m no_entity_or_record h = h
  fault_same s n m context_fails h = fails_same s n m x.start.context h

  pub opened_with : (s : State) (n : Text) (m : Made) → IsOpened x s → ((f : BindRefusal) → BindFault x s n m f → ⊥) → IsWellMade x.functions.table m → IsOpened x (with_bound s n m)
  opened_with s n m h ok well = record { opened = h.opened; bound = (h.bound, (λ f q. ok f (fault_same s n m f q)), well) }
