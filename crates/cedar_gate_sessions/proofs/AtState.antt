-- What a session of the code takes and refuses, at the state at which it stands.
use Rattle.std.proofs.Common.{◌≡◌, ◌∙◌, true, false, Contains, Option, [], sym, ap, subst}
use Rattle.cedar_expr_model.proofs.Lists.{contains_none}
use Rattle.std.specs.Map.{keys_of}
use Rattle.std.specs.Prelude.{is_some, List}
use Rattle.cedar_expr_model.specs.Made.{Made}
use Rattle.cedar_expr_model.specs.Name.{Text}
use Rattle.cedar_expr_model.specs.Uid.{Uid}
use Rattle.cedar_expr_model.specs.Value.{V}
use Rattle.cedar_store_model.specs.World.{Entity}
use Rattle.cedar_schema_model.specs.Conforming.{request_conforms}
use Rattle.cedar_schema_model.specs.Schema.{Schema}
use Rattle.cedar_evaluator_requests.specs.Views.{request_of}
use Rattle.cedar_gate_openings.specs.Values.{takes}
use Rattle.cedar_gate_openings.specs.declared.faults.BindFault.{BindFault}
use Rattle.cedar_gate_openings.specs.declared.faults.BindFault.TheVariants as binding
use Rattle.cedar_gate_model.specs.Session as session
use Rattle.cedar_gate_model.specs.Session.{Setup, State, Supplied, SupplyRefusal, BindRefusal, AnswerRefusal, IsWantedList, ContextFails, with_bound}
use Rattle.cedar_gate_sessions.specs.Faults.{IsSupplyFaultBy, IsFitSupply, IsFitBinding, IsSupplyFault, IsBindFault, IsAnswerFault}
use Rattle.cedar_gate_sessions.specs.Refused.{IsRefusedBinding, IsRefusedAnswer, HasAnswer}
use Rattle.cedar_gate_sessions.specs.Requests.{known_request}
use Rattle.cedar_gate_sessions.specs.Sessions.{IsAt, IsSameSession, EvaluatesWith, gate_of, wanted_of, start_of, bound_by, conforms_now}
use Rattle.cedar_gate_sessions.specs.declared.faults.SupplyFault.{SupplyFault}
use Rattle.cedar_gate_sessions.specs.declared.faults.SupplyFault.TheVariants as supplying
use Rattle.cedar_gate_sessions.specs.declared.faults.AnswerFault.{AnswerFault}
use Rattle.cedar_gate_sessions.specs.declared.faults.AnswerFault.TheVariants as answering
use Rattle.cedar_gate_sessions.specs.declared.session.SessionAt.{SessionAt}
use Rattle.cedar_gate_sessions.proofs.Answerable.{has_open, none_open, refuses_now, conforms_now as conforms_there, none_refused}
use Rattle.cedar_gate_sessions.proofs.Binding.{not_open_is, value_fault_is, no_refusal_by}
use Rattle.cedar_gate_sessions.proofs.Standing.{at_same, wanted_list}
use Rattle.cedar_gate_sessions.proofs.Supplying.{supply_taken, supply_unwanted, supply_lacks}

module _ {G : Type 0} (suits : G → Setup → Type 0) (x : Setup) (s : State) (e : SessionAt G) (at : IsAt suits x s e) where
  wanted : IsWantedList x s (wanted_of e)
  wanted = wanted_list x s e.loading at.wanting at.near

  -- supplies
  module _ (z : Schema) (is : z ≡ x.schema) (ps : Supplied) where
    pub supply_at : (f : SupplyFault) → IsSupplyFaultBy z (wanted_of e) ps f → IsSupplyFault x s ps f
    supply_at supplying.OutOfMemory h = tt
    supply_at supplying.NotWanted h = supply_unwanted x s (wanted_of e) wanted ps h
    supply_at supplying.Lacking h = supply_lacks x s (wanted_of e) wanted ps h
    supply_at supplying.Repeated h = h
    supply_at supplying.WrongEntity h = (h.0, h.1, subst (λ y. session.IsWrong y h.0) is h.2)

    pub supply_fits : IsFitSupply z (wanted_of e) ps → (f : SupplyRefusal) → session.SupplyFault x s ps f → ⊥
    supply_fits fits = supply_taken x s (wanted_of e) wanted ps fits.keys (λ p k w. fits.right p k (subst (λ y. session.IsWrong y p) (sym is) w))

  -- bindings
  module _ (n : Text) (m : Made) where
    pub bind_at : (f : BindFault) → IsRefusedBinding suits e n m f → IsBindFault x s n m f
    bind_at binding.OutOfMemory h = tt
    bind_at binding.NotOpen h = not_open_is suits x s e at n m h
    bind_at binding.AgainstAnnotation h = value_fault_is suits x s e at n m binding.AgainstAnnotation h
    bind_at binding.NoEntityOrRecord h = value_fault_is suits x s e at n m binding.NoEntityOrRecord h
    bind_at binding.ContextFails h = subst (λ r. ContextFails x.functions (with_bound s n m) r.context) (at.setup).start (h x (at.setup).gate s at.bound)

    pub bind_fits : IsFitBinding (start_of e) (bound_by e) n m → EvaluatesWith suits e n m → (f : BindRefusal) → session.BindFault x s n m f → ⊥
    bind_fits fits evaluates = no_refusal_by suits x s e at n m fits.free fits.takes (evaluates x (at.setup).gate s at.bound)

  -- answers
  module _ (schema : G → Schema) (is : schema (gate_of e) ≡ x.schema) where
    conforming : conforms_now schema e ≡ request_conforms x.schema (known_request (request_of e.now))
    conforming = ap (λ z. request_conforms z (known_request (request_of e.now))) is

    pub answer_at : (f : AnswerFault) → IsRefusedAnswer schema e f → IsAnswerFault x s f
    answer_at answering.OutOfMemory h = tt
    answer_at answering.NotBound h = has_open x s (bound_by e) (start_of e) at.bound (at.setup).start h
    answer_at answering.StillWanted h = (h.0, (wanted.exact h.0).0 h.1)
    answer_at answering.NotConforming h = (none_open x s (bound_by e) (start_of e) at.bound (at.setup).start h.0, refuses_now x s (request_of e.now) at.now (sym conforming ∙ h.1))

    pub nothing_wanted : HasAnswer schema e → session.NothingIsWanted x s
    nothing_wanted h = λ u w. contains_none u (subst (λ us. Contains us u) h.loaded ((wanted.exact u).1 w))

    pub answer_fits : HasAnswer schema e → (f : AnswerRefusal) → session.AnswerFault x s f → ⊥
    answer_fits h = none_refused x s (none_open x s (bound_by e) (start_of e) at.bound (at.setup).start h.bound) (nothing_wanted h) (conforms_there x s (request_of e.now) at.now (sym conforming ∙ h.conforming))

  -- a session that says the same stands there too
  pub same_at : (d : SessionAt G) → IsSameSession e d → IsAt suits x s d
  same_at d h = at_same suits x s e at d h.gate h.start h.bound h.now h.loaded h.loading
