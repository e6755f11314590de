-- Why calls of a session are refused.
-- Rule: refusals of a session (docs/RULES.md).
use Rattle.std.specs.Prelude.{◌≡◌, ℕ, Bool, true, false, List, [], Contains, Option, Some, None, IfSome}
use Rattle.std.specs.Map.{keys_of}
use Rattle.std.specs.Option.{option_map_or}
use Rattle.cedar_expr_model.specs.Name.{Text}
use Rattle.cedar_expr_model.specs.Uid.{Uid}
use Rattle.cedar_expr_model.specs.Made.{Made}
use Rattle.cedar_expr_model.specs.Substitution.{Bindings}
use Rattle.cedar_expr_model.specs.Value.{V}
use Rattle.cedar_store_model.specs.World.{Entity}
use Rattle.cedar_schema_model.specs.Schema.{Schema}
use Rattle.cedar_evaluator_model.specs.Response.{PartialRequest}
use Rattle.cedar_gate_openings.specs.Names.{is_open_by}
use Rattle.cedar_gate_openings.specs.Values.{IsAgainst, IsOfWrongForm, takes}
use Rattle.cedar_gate_openings.specs.declared.faults.BindFault.{BindFault}
use Rattle.cedar_gate_openings.specs.declared.faults.BindFault.TheVariants as binding
use Rattle.cedar_gate_model.specs.Session as session
use Rattle.cedar_gate_model.specs.Session.{Setup, State, Supplied, SupplyRefusal, BindRefusal, AnswerRefusal, supply_number, answer_number}
use Rattle.cedar_gate_wanted.specs.Supplying.{IsUnfit, AreKeys}
use Rattle.cedar_gate_wanted.specs.declared.supplied.Unfit.{Unfit}
use Rattle.cedar_gate_wanted.specs.declared.supplied.Unfit.TheVariants as unfit
use Rattle.cedar_gate_sessions.specs.declared.faults.SupplyFault.{SupplyFault}
use Rattle.cedar_gate_sessions.specs.declared.faults.SupplyFault.TheVariants as supplying
use Rattle.cedar_gate_sessions.specs.declared.faults.AnswerFault.{AnswerFault}
use Rattle.cedar_gate_sessions.specs.declared.faults.AnswerFault.TheVariants as answering

-- the refusal that a fault is; out of memory is none
abbrev pub supply_refusal : SupplyFault → Option SupplyRefusal
supply_refusal supplying.OutOfMemory = None
supply_refusal supplying.NotWanted = Some session.not_wanted
supply_refusal supplying.Lacking = Some session.lacking
supply_refusal supplying.Repeated = Some session.repeated
supply_refusal supplying.WrongEntity = Some session.wrong_entity

abbrev pub bind_refusal : BindFault → Option BindRefusal
bind_refusal binding.OutOfMemory = None
bind_refusal binding.NotOpen = Some session.not_open
bind_refusal binding.AgainstAnnotation = Some session.against_annotation
bind_refusal binding.NoEntityOrRecord = Some session.no_entity_or_record
bind_refusal binding.ContextFails = Some session.context_fails

abbrev pub answer_refusal : AnswerFault → Option AnswerRefusal
answer_refusal answering.OutOfMemory = None
answer_refusal answering.NotBound = Some session.not_bound
answer_refusal answering.StillWanted = Some session.still_wanted
answer_refusal answering.NotConforming = Some session.not_conforming

-- the number of a fault; that of out of memory is 0
abbrev pub supply_fault_number : SupplyFault → ℕ
supply_fault_number f = option_map_or supply_number (supply_refusal f) 0

abbrev pub answer_fault_number : AnswerFault → ℕ
answer_fault_number f = option_map_or answer_number (answer_refusal f) 0

-- Why a call of a session of the code is refused, whatever its table, its host and its entities are. Out of memory says nothing.
-- A supply, by the schema and by what is wanted: a uid isn't wanted, a wanted one is missing, one is given twice, or an entity is wrong.
abbrev pub IsSupplyFaultBy : Schema → List Uid → Supplied → SupplyFault → Type 0
IsSupplyFaultBy z wanted ps supplying.OutOfMemory = Unit {0}
IsSupplyFaultBy z wanted ps supplying.NotWanted = IsUnfit wanted (keys_of ps) unfit.NotWanted
IsSupplyFaultBy z wanted ps supplying.Lacking = IsUnfit wanted (keys_of ps) unfit.Lacking
IsSupplyFaultBy z wanted ps supplying.Repeated = IsUnfit wanted (keys_of ps) unfit.Repeated
IsSupplyFaultBy z wanted ps supplying.WrongEntity = (p : Uid × Option (Uid × Entity V)) × Contains ps p × session.IsWrong z p

-- no fault of a supply is there
pub record IsFitSupply (z : Schema) (wanted : List Uid) (ps : Supplied) : Type 0 where
  pub keys : AreKeys wanted (keys_of ps)
  pub right : (p : Uid × Option (Uid × Entity V)) → Contains ps p → session.IsWrong z p → ⊥

-- A binding, by the request that the session was opened with and what is bound: the name isn't open, the value is against its annotation or
-- of a wrong form, or the context fails to evaluate with it, as this says.
abbrev pub IsBindFaultBy : PartialRequest → Bindings → Type 0 → Text → Made → BindFault → Type 0
IsBindFaultBy r values fails n m binding.OutOfMemory = Unit {0}
IsBindFaultBy r values fails n m binding.NotOpen = is_open_by r values n ≡ false
IsBindFaultBy r values fails n m binding.AgainstAnnotation = IsAgainst r n m
IsBindFaultBy r values fails n m binding.NoEntityOrRecord = IsOfWrongForm r n m
IsBindFaultBy r values fails n m binding.ContextFails = fails

-- the name is open, and takes the value
pub record IsFitBinding (r : PartialRequest) (values : Bindings) (n : Text) (m : Made) : Type 0 where
  pub free : is_open_by r values n ≡ true
  pub takes : takes r n m

-- An answer, by what is open, what is wanted and whether the request that is known conforms.
abbrev pub IsAnswerFaultBy : Type 0 → List Uid → Bool → AnswerFault → Type 0
IsAnswerFaultBy has_open wanted conforms answering.OutOfMemory = Unit {0}
IsAnswerFaultBy has_open wanted conforms answering.NotBound = has_open
IsAnswerFaultBy has_open wanted conforms answering.StillWanted = (u : Uid) × Contains wanted u
IsAnswerFaultBy has_open wanted conforms answering.NotConforming = (has_open → ⊥) × (conforms ≡ false)

-- nothing is open or wanted, and the request conforms
pub record IsAnswerable (has_open : Type 0) (wanted : List Uid) (conforms : Bool) : Type 0 where
  pub bound : has_open → ⊥
  pub loaded : wanted ≡ []
  pub conforming : conforms ≡ true

-- The fault is there at the state of a course. Out of memory says nothing.
abbrev pub IsSupplyFault : Setup → State → Supplied → SupplyFault → Type 0
IsSupplyFault x s ps f = IfSome (supply_refusal f) (session.SupplyFault x s ps)

abbrev pub IsBindFault : Setup → State → Text → Made → BindFault → Type 0
IsBindFault x s n m f = IfSome (bind_refusal f) (session.BindFault x s n m)

abbrev pub IsAnswerFault : Setup → State → AnswerFault → Type 0
IsAnswerFault x s f = IfSome (answer_refusal f) (session.AnswerFault x s)

-- why what isn't taken in is refused
abbrev pub unfit_fault : Unfit → SupplyFault
unfit_fault unfit.OutOfMemory = supplying.OutOfMemory
unfit_fault unfit.NotWanted = supplying.NotWanted
unfit_fault unfit.Lacking = supplying.Lacking
unfit_fault unfit.Repeated = supplying.Repeated

-- why rows aren't taken in: the fault is there, for a supply of these uids
abbrev pub IsTakingFault : List Uid → List Uid → SupplyFault → Type 0
IsTakingFault wanted keys f = (u : Unfit) × (f ≡ unfit_fault u) × IsUnfit wanted keys u

-- The context fails to evaluate, as this says. Out of memory says nothing.
abbrev pub IsContextFault : Type 0 → BindFault → Type 0
IsContextFault fails binding.OutOfMemory = Unit {0}
IsContextFault fails binding.ContextFails = fails
IsContextFault fails f = ⊥
