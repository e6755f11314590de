-- Which bindings are refused, and at which state a session stands after one.
use Rattle.std.proofs.Common.{◌≡◌, ◌∙◌, ◌++◌, Bool, true, false, cond, List, Option, Some, None, not, is_some, refl, sym, ap, subst}
use Rattle.std.specs.Prelude.{◌&&◌, ◌||◌, if◌then◌else◌, Result, Ok, Err, IfErr, OnErr, IsErrAnd}
use Rattle.std.specs.Str.{bytes_eq}
use Rattle.std.proofs.lemmas.Slice.Eq.{bytes_eq-Decides}
use Rattle.cedar_expr_model.specs.Name.{Text}
use Rattle.cedar_expr_model.specs.Uid.{Uid}
use Rattle.cedar_expr_model.specs.Made.{Made}
use Rattle.cedar_expr_model.specs.Substitution.{Bindings}
use Rattle.cedar_schema_model.specs.Schema as model
use Rattle.cedar_evaluator_model.specs.OfLaws.WellMade.{IsWellMade}
use Rattle.cedar_evaluator_model.specs.Response.{PartialRequest}
use Rattle.cedar_evaluator_requests.specs.Views.{request_of}
use Rattle.cedar_gate_openings.specs.Faults.{IsValueFault}
use Rattle.cedar_gate_openings.specs.Names.{bound_in, is_open_by}
use Rattle.cedar_gate_openings.specs.Values.{takes}
use Rattle.cedar_gate_openings.specs.declared.faults.BindFault.{BindFault}
use Rattle.cedar_gate_openings.specs.declared.faults.BindFault.TheVariants as binding
use Rattle.cedar_gate_wanted.specs.Kept.{IsKept}
use Rattle.cedar_gate_model.specs.Session as session
use Rattle.cedar_gate_model.specs.Session.{Setup, State, value_of, with_bound, is_open_name, is_open_entry, is_open_context, entry_named, ContextFails, BindRefusal, not_open, against_annotation, no_entity_or_record, context_fails}
use Rattle.cedar_gate_openings.specs.Laws.{RootsAreKnown, BindingIsMore}
use Rattle.cedar_gate_openings.specs.Requests.{request_at, AreValuesOf}
use Rattle.cedar_gate_openings.specs.Roots.{known_roots}
use Rattle.cedar_gate_wanted.specs.Wanting.{IsWanting, near_in, mentions_of, level_of}
use Rattle.cedar_gate_sessions.specs.Faults.{IsBindFault, IsBindFaultBy, IsContextFault}
use Rattle.cedar_gate_sessions.specs.Entities.{IsSameStore}
use Rattle.cedar_gate_sessions.specs.Sessions.{IsAt}
use Rattle.cedar_gate_sessions.specs.declared.session.SessionAt.{SessionAt}
use Rattle.cedar_gate_sessions.proofs.Standing.{after_bind}

lie : {P : Type 0} → true ≡ false → P
lie e = cc

-- what a refusal says is handed on
pub handed : {B E : Type 0} (P : E → Type 0) (e : E) (r : Result B E) → IsErrAnd r (λ y. y ≡ e) → P e → IfErr r P
handed P e (Ok y) same h = tt
handed P e (Err y) same h = subst P (sym same) h

pub handed_on : {B E : Type 0} (P : Type 0) (r : Result B E) → P → OnErr r P
handed_on P (Ok y) h = tt
handed_on P (Err y) h = h

-- texts are compared in either order
swapped : (k n : Text) → bytes_eq n k ≡ bytes_eq k n
swapped k n = go (bytes_eq n k) (bytes_eq k n) refl refl
  where
    go : (a b : Bool) → bytes_eq n k ≡ a → bytes_eq k n ≡ b → a ≡ b
    go true true e f = refl
    go false false e f = refl
    go true false e f = lie (sym ((bytes_eq-Decides k n).1 (sym ((bytes_eq-Decides n k).0 e))) ∙ f)
    go false true e f = lie (sym ((bytes_eq-Decides n k).1 (sym ((bytes_eq-Decides k n).0 f))) ∙ e)

-- what is open isn't bound
unbound : (r : PartialRequest) (values : Bindings) (n : Text) → is_open_by r values n ≡ true → values n ≡ None
unbound r values n e = go (values n) refl (is_open_entry (entry_named r n) || is_open_context r.context n) e
  where
    go : (o : Option Made) → values n ≡ o → (b : Bool) → (not (is_some o) && b) ≡ true → o ≡ None
    go None is b e = refl
    go (Some m) is b e = lie (sym e)

-- taking back what was bound to an open name restores what was bound
pub taken_back : (r : PartialRequest) (old mid new : Bindings) (n k : Text) (m : Made) → is_open_by r old n ≡ true → k ≡ n
    → ((j : Text) → mid j ≡ (if bytes_eq n j then Some m else old j)) → ((j : Text) → new j ≡ (if bytes_eq k j then None else mid j)) → (j : Text) → new j ≡ old j
taken_back r old mid new n k m free is put taken j = taken j ∙ ap (λ z. if bytes_eq z j then None else mid j) is ∙ ap (λ o. if bytes_eq n j then None else o) (put j) ∙ go (bytes_eq n j) refl
  where
    go : (b : Bool) → bytes_eq n j ≡ b → (if b then None else (if b then Some m else old j)) ≡ old j
    go true e = sym (ap old (sym ((bytes_eq-Decides n j).0 e)) ∙ unbound r old n free)
    go false e = refl

module _ (x : Setup) (s : State) (n : Text) (m : Made) where
  pub values_with : (old new : Bindings) → AreValuesOf s old → ((k : Text) → new k ≡ (if bytes_eq n k then Some m else old k)) → AreValuesOf (with_bound s n m) new
  values_with old new at put k = put k ∙ ap (λ b. cond b (Some m) (old k)) (swapped k n) ∙ ap (λ o. cond (bytes_eq k n) (Some m) o) (at k)

  open_same : (r : PartialRequest) (values : Bindings) → r ≡ x.start → AreValuesOf s values → is_open_by r values n ≡ is_open_name x.start s n
  open_same r values start at = ap (λ o. not (is_some o) && (is_open_entry (entry_named r n) || is_open_context r.context n)) (at n) ∙ ap (λ q. is_open_name q s n) start

  value_fault : (f : BindFault) → IsValueFault x.start n m f → IsBindFault x s n m f
  value_fault binding.OutOfMemory h = tt
  value_fault binding.NotOpen h = absurd h
  value_fault binding.AgainstAnnotation h = h
  value_fault binding.NoEntityOrRecord h = h
  value_fault binding.ContextFails h = absurd h

  none_refused : is_open_name x.start s n ≡ true → takes x.start n m → (ContextFails x.functions (with_bound s n m) x.start.context → ⊥) → (f : BindRefusal) → session.BindFault x s n m f → ⊥
  none_refused free fits fine not_open h = lie (sym free ∙ h)
  none_refused free fits fine against_annotation h = fits.0 h
  none_refused free fits fine no_entity_or_record h = fits.1 h
  none_refused free fits fine context_fails h = fine h

module _ {G : Type 0} (suits : G → Setup → Type 0) (x : Setup) (s : State) (d : SessionAt G) (at : IsAt suits x s d) (n : Text) (m : Made) where
  abbrev start : PartialRequest
  start = request_of d.start

  start_is : start ≡ x.start
  start_is = (at.setup).start

  -- refusals
  pub not_open_is : is_open_by start (bound_in d.bound) n ≡ false → IsBindFault x s n m binding.NotOpen
  not_open_is e = sym (open_same x s n m start (bound_in d.bound) start_is at.bound) ∙ e

  pub value_fault_is : (f : BindFault) → IsValueFault start n m f → IsBindFault x s n m f
  value_fault_is f h = value_fault x s n m f (subst (λ r. IsValueFault r n m f) start_is h)

  abbrev PutBy : Bindings → Type 0
  PutBy bound = (k : Text) → bound k ≡ (if bytes_eq n k then Some m else bound_in d.bound k)

  -- what is taken, where the context evaluates
  pub no_refusal_by : is_open_by start (bound_in d.bound) n ≡ true → takes start n m → (ContextFails x.functions (with_bound s n m) start.context → ⊥) → (f : BindRefusal) → session.BindFault x s n m f → ⊥
  no_refusal_by free fits evaluates =
      none_refused x s n m (sym (open_same x s n m start (bound_in d.bound) start_is at.bound) ∙ free) (subst (λ r. takes r n m) start_is fits) (subst (λ r. ContextFails x.functions (with_bound s n m) r.context → ⊥) start_is evaluates)

  -- what is taken
  module _ (bound : Bindings) (put : PutBy bound) (free : is_open_by start (bound_in d.bound) n ≡ true) (fits : takes start n m) (evaluates : (t : State) → AreValuesOf t bound → ContextFails x.functions t start.context → ⊥) where
    open_now : is_open_name x.start s n ≡ true
    open_now = sym (open_same x s n m start (bound_in d.bound) start_is at.bound) ∙ free

    fine : ContextFails x.functions (with_bound s n m) x.start.context → ⊥
    fine = subst (λ r. ContextFails x.functions (with_bound s n m) r.context → ⊥) start_is (evaluates (with_bound s n m) (values_with x s n m (bound_in d.bound) bound at.bound put))

    pub no_refusal : (f : BindRefusal) → session.BindFault x s n m f → ⊥
    no_refusal = none_refused x s n m open_now (subst (λ r. takes r n m) start_is fits) fine

  -- after it
  pub stands_bound : (e : SessionAt G) → RootsAreKnown → BindingIsMore → (z : model.Schema) → z ≡ x.schema
      → e.gate ≡ d.gate → e.start ≡ d.start → IsSameStore d.loaded e.loaded
      → is_open_by start (bound_in d.bound) n ≡ true → takes start n m → PutBy (bound_in e.bound)
      → ((t : State) → AreValuesOf t (bound_in e.bound) → request_of e.now ≡ request_at x.functions t start)
      → ((t : State) → AreValuesOf t (bound_in e.bound) → ContextFails x.functions t start.context → ⊥)
      → level_of e.loading ≡ level_of d.loading → (e.loading).rows ≡ (d.loading).rows
      → (IsWanting z d.loading → IsWanting z e.loading)
      → ((r : List Uid) → IsKept r (mentions_of d.loading) (level_of d.loading) (near_in d.loading) → IsKept (r ++ known_roots (request_of e.now)) (mentions_of e.loading) (level_of e.loading) (near_in e.loading))
      → IsWellMade x.functions.table m → IsAt suits x (with_bound s n m) e
  stands_bound e roots more z schema_is gate begun loaded free fits put now evaluates level rows wanting keeps well =
      let t = with_bound s n m in
      let now_is : request_of e.now ≡ request_at x.functions t x.start = now t (values_with x s n m (bound_in d.bound) (bound_in e.bound) at.bound put) ∙ ap (request_at x.functions t) start_is in
      after_bind suits x s d at e n m (known_roots (request_of e.now)) (more x s n m at.context (open_now (bound_in e.bound) put free fits evaluates))
      gate begun put now_is loaded level rows (subst (λ y. IsWanting y e.loading) schema_is (wanting (subst (λ y. IsWanting y d.loading) (sym schema_is) at.wanting)))
      (λ r k. subst (λ l. IsKept (r ++ known_roots (request_of e.now)) (mentions_of e.loading) l (near_in e.loading)) (level ∙ at.level) (keeps r (subst (λ l. IsKept r (mentions_of d.loading) l (near_in d.loading)) (sym at.level) k)))
      (roots x t (request_of e.now) now_is) (no_refusal (bound_in e.bound) put free fits evaluates) well

-- a value that is refused, and a context that fails, are faults of the binding
pub value_fault_by : (r : PartialRequest) (values : Bindings) (fails : Type 0) (n : Text) (m : Made) (f : BindFault) → IsValueFault r n m f → IsBindFaultBy r values fails n m f
value_fault_by r values fails n m binding.OutOfMemory h = tt
value_fault_by r values fails n m binding.NotOpen h = absurd h
value_fault_by r values fails n m binding.AgainstAnnotation h = h
value_fault_by r values fails n m binding.NoEntityOrRecord h = h
value_fault_by r values fails n m binding.ContextFails h = absurd h

pub context_fault_by : (r : PartialRequest) (values : Bindings) (why fails : Type 0) → (why → fails) → (n : Text) (m : Made) (f : BindFault) → IsContextFault why f → IsBindFaultBy r values fails n m f
context_fault_by r values why fails so n m binding.OutOfMemory h = tt
context_fault_by r values why fails so n m binding.NotOpen h = absurd h
context_fault_by r values why fails so n m binding.AgainstAnnotation h = absurd h
context_fault_by r values why fails so n m binding.NoEntityOrRecord h = absurd h
context_fault_by r values why fails so n m binding.ContextFails h = so h
