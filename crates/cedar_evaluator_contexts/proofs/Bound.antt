-- Requests with values for what is unknown in them.
use Rattle.std.proofs.Common.{◌≡◌, Bool, true, false, Option, Some, None, refl, sym, ap, ◌∙◌, subst, codes, if◌then◌else◌}
use Rattle.std.specs.Rc.{rc_str_bytes}
use Rattle.std.specs.declared.alloc.Global.{Global}
use Rattle.std.specs.declared.rc.RcStr.{RcStr}
use Rattle.std.specs.Option.{option_map_or}
use Rattle.std.specs.Prelude.{Result, Ok, Err, IsErrAnd}
use Rattle.cedar_expr_names.specs.declared.entity.EntityType.{EntityType}
use Rattle.cedar_expr_partial.specs.declared.partial_value.PartialValue.{PartialValue}
use Rattle.cedar_expr_values.specs.declared.extension.ExtValue.{ExtValue}
use Rattle.cedar_expr_values.specs.declared.value.Value.{Value}
use Rattle.cedar_expr_model.specs.Made.{Made, MadeFields, bare, made_prim, made_set, made_record, made_extension}
use Rattle.cedar_expr_model.specs.Substitution.{Bindings}
use Rattle.cedar_expr_model.specs.Tree.{Var, principal, action, resource, context}
use Rattle.cedar_expr_model.specs.Uid.{Uid}
use Rattle.cedar_expr_model.specs.Value.{truth, long, text, entity}
use Rattle.cedar_store_model.specs.Outcome.{wrong_type}
use Rattle.cedar_store_model.specs.Reads.{uid_of}
use Rattle.cedar_evaluator_model.specs.Scope.{Scope, Entry, Context, Stop, fault, limit, closed, residual_fields, unknown_context}
use Rattle.cedar_evaluator_model.specs.Reauthorize.{Outcome, makes_it, refuses, Refusal, wrong_value, known_already, other_type, context_stops, and_next, entry_bound, entry_with, context_bound, context_substituted, request_bound}
use Rattle.cedar_evaluator_model.specs.Response.{PartialRequest}
use Rattle.cedar_evaluator_errors.specs.Outcomes.{is_memory, stop_or}
use Rattle.cedar_evaluator_errors.specs.declared.err.EvaluationError.{EvaluationError}
use Rattle.cedar_evaluator_errors.specs.declared.err.EvaluationError.TheVariants as evaluation
use Rattle.cedar_evaluator_requests.specs.Views.{name_of_var, context_of}
use Rattle.cedar_evaluator_requests.specs.declared.context.Context as code
use Rattle.cedar_evaluator_requests.specs.declared.context.Context.TheVariants as known
use Rattle.cedar_evaluator_contexts.specs.Refusals.{as_concretization, is_request_memory, of_named, refusal_or, stopped_or, Takes}
use Rattle.cedar_evaluator_contexts.specs.ContextParts.{fields_in_value}
use Rattle.cedar_evaluator_contexts.specs.declared.err.ConcretizationError.{ConcretizationError}
use Rattle.cedar_evaluator_contexts.specs.declared.err.ConcretizationError.TheVariants.{OutOfMemory, ValueError, VarConfictError, EntityTypeConfictError, ValueEval}

-- what is refused of a variable by its name
pub of_variable : (refused : Var → Refusal) (other : Refusal) (x : Var) → of_named refused other (name_of_var x) ≡ refused x
of_variable refused other principal = refl
of_variable refused other action = refl
of_variable refused other resource = refl
of_variable refused other context = refl

-- what the errors of a variable of this name say
pub wrong_named : (x : Var) (i : RcStr Global) (t : _) (v : Value ExtValue) → rc_str_bytes i ≡ name_of_var x → (other : Refusal) → refusal_or other (ValueError i t v) ≡ wrong_value x
wrong_named x i t v h other = ap (of_named wrong_value other) h ∙ of_variable wrong_value other x

pub known_named : (x : Var) (i : RcStr Global) (p : PartialValue ExtValue) (v : Value ExtValue) → rc_str_bytes i ≡ name_of_var x → (other : Refusal) → refusal_or other (VarConfictError i p v) ≡ known_already x
known_named x i p v h other = ap (of_named known_already other) h ∙ of_variable known_already other x

pub type_named : (x : Var) (i : RcStr Global) (k : EntityType) (v : Value ExtValue) → rc_str_bytes i ≡ name_of_var x → (other : Refusal) → refusal_or other (EntityTypeConfictError i k v) ≡ other_type x
type_named x i k v h other = ap (of_named other_type other) h ∙ of_variable other_type other x

-- an error that says why
abbrev refused : (A : Type 0) → Refusal → Outcome A
refused A r = refuses r

pub said : (r : Refusal) (e : ConcretizationError) → ((other : Refusal) → refusal_or other e ≡ r) → {A : Type 0} → (other : Refusal) → is_request_memory e ≡ false → refused A r ≡ refused A (refusal_or other e)
said r e h other m = ap refuses (sym (h other))

-- an entry with a value that is, or isn't, a uid
pub entity_given : (x : Var) (e : Entry) (m : Made) (o : Option Uid) → o ≡ uid_of (bare m) → entry_bound x e (Some m) ≡ option_map_or (λ u. entry_with x u e) o (refuses (wrong_value x))
entity_given x e m o h = there m ∙ ap (λ p. option_map_or (λ u. entry_with x u e) p (refuses (wrong_value x))) (sym h)
  where
    there : (m : Made) → entry_bound x e (Some m) ≡ option_map_or (λ u. entry_with x u e) (uid_of (bare m)) (refuses (wrong_value x))
    there (made_prim (truth b)) = refl
    there (made_prim (long n)) = refl
    there (made_prim (text t)) = refl
    there (made_prim (entity u)) = refl
    there (made_set ms) = refl
    there (made_record fs) = refl
    there (made_extension n k f ps) = refl

-- a context with a value that is no record
pub no_record_given : (c : Context) (m : Made) → fields_in_value m ≡ None → context_bound c (Some m) ≡ refuses (wrong_value context)
no_record_given (closed fs) m h = closed_case m h
  where
    closed_case : (m : Made) → fields_in_value m ≡ None → context_bound (closed fs) (Some m) ≡ refuses (wrong_value context)
    closed_case (made_prim p) h = refl
    closed_case (made_set ms) h = refl
    closed_case (made_record gs) h = cc
    closed_case (made_extension n k f ps) h = refl
no_record_given (residual_fields fs) m h = residual_case m h
  where
    residual_case : (m : Made) → fields_in_value m ≡ None → context_bound (residual_fields fs) (Some m) ≡ refuses (wrong_value context)
    residual_case (made_prim p) h = refl
    residual_case (made_set ms) h = refl
    residual_case (made_record gs) h = cc
    residual_case (made_extension n k f ps) h = refl
no_record_given unknown_context m h = unknown_case m h
  where
    unknown_case : (m : Made) → fields_in_value m ≡ None → context_bound unknown_context (Some m) ≡ refuses (wrong_value context)
    unknown_case (made_prim p) h = refl
    unknown_case (made_set ms) h = refl
    unknown_case (made_record gs) h = cc
    unknown_case (made_extension n k f ps) h = refl

-- a value whose fields are these is their record
pub fields_record : (m : Made) (fs : MadeFields) → Some fs ≡ fields_in_value m → m ≡ made_record fs
fields_record (made_prim p) fs h = cc
fields_record (made_set ms) fs h = cc
fields_record (made_record gs) fs h = let same : fs ≡ gs = cc in ap made_record (sym same)
fields_record (made_extension n k f ps) fs h = cc

-- a record for an unknown context, or for a known one
pub record_for_unknown : (c : Context) (fs gs : MadeFields) → c ≡ unknown_context → fs ≡ gs → context_bound c (Some (made_record fs)) ≡ makes_it (closed gs)
record_for_unknown c fs gs h k = ap (λ x. context_bound x (Some (made_record fs))) h ∙ ap (λ x. makes_it (closed x)) k

pub record_for_known : (c : Context) (k : code.Context) (fs : MadeFields) → c ≡ context_of k → context_bound c (Some (made_record fs)) ≡ refuses (known_already context)
record_for_known c k fs h = ap (λ x. context_bound x (Some (made_record fs))) h ∙ there k
  where
    there : (k : code.Context) → context_bound (context_of k) (Some (made_record fs)) ≡ refuses (known_already context)
    there (known.Value gs) = refl
    there (known.RestrictedResidual r) = refl

-- a context that isn't made, since its evaluation stopped
two_stops : (o : Outcome Context) → ((other : Stop) → o ≡ refuses (context_stops other)) → ⊥
two_stops o h = let e = sym (h limit) ∙ h (fault wrong_type) in absurd (cc)

stop_case : (o : Outcome Context) (x : EvaluationError) → ((other : Stop) → o ≡ refuses (context_stops (stop_or other x))) → (other : Refusal) → o ≡ refuses (stopped_or other x)
stop_case o evaluation.OutOfMemory h other = absurd (two_stops o h)
stop_case o (evaluation.NonValue e) h other = absurd (two_stops o h)
stop_case o x h other = h limit

memory_case : (o : Outcome Context) (x : EvaluationError) (b : Bool) → is_memory x ≡ b → ((other : Stop) → is_memory x ≡ false → o ≡ refuses (context_stops (stop_or other x))) → (other : Refusal) → is_request_memory (as_concretization x) ≡ false → o ≡ refuses (refusal_or other (as_concretization x))
memory_case o x true m h other k =
    let t : is_request_memory (as_concretization x) ≡ true = ap (λ b. is_request_memory (if b then OutOfMemory else ValueEval x)) m in
    let f = sym t ∙ k in
    absurd (cc)
memory_case o x false m h other k = stop_case o x (λ s. h s m) other ∙ sym (ap (λ b. refuses (refusal_or other (if b then OutOfMemory else ValueEval x))) m)

pub stop_told : (o : Outcome Context) (x : EvaluationError) (e : ConcretizationError) → e ≡ as_concretization x → ((other : Stop) → is_memory x ≡ false → o ≡ refuses (context_stops (stop_or other x))) → (other : Refusal) → is_request_memory e ≡ false → o ≡ refuses (refusal_or other e)
stop_told o x e q h other m = subst (λ y. is_request_memory y ≡ false → o ≡ refuses (refusal_or other y)) (sym q) (memory_case o x (is_memory x) refl h other) m

-- an error that is handed on
pub passed : {A C : Type 0} (seen : C → A) (o : Outcome A) (e : ConcretizationError) (r : Result C ConcretizationError) → IsErrAnd r (λ y. y ≡ e) → ((other : Refusal) → is_request_memory e ≡ false → o ≡ refuses (refusal_or other e)) → Takes seen o r
passed seen o e (Ok c) same h = absurd same
passed seen o e (Err y) same h = λ other m. h other (subst (λ z. is_request_memory z ≡ false) same m) ∙ ap (λ z. refuses (refusal_or other z)) (sym same)

-- the parts of a request, one after the other
module _ (s : Scope) (env : Bindings) (q : PartialRequest) where
  abbrev with_context : Entry → Entry → Entry → Outcome PartialRequest
  with_context p a r = and_next (and_next (context_bound q.context (env (codes "context"))) (context_substituted s env)) (λ c. makes_it (record { principal = p; action = a; resource = r; context = c }))

  abbrev with_resource : Entry → Entry → Outcome PartialRequest
  with_resource p a = and_next (entry_bound resource q.resource (env (codes "resource"))) (with_context p a)

  abbrev with_action : Entry → Outcome PartialRequest
  with_action p = and_next (entry_bound action q.action (env (codes "action"))) (with_resource p)

  pub after_principal : (o : Outcome Entry) → entry_bound principal q.principal (env (codes "principal")) ≡ o → request_bound s env q ≡ and_next o with_action
  after_principal o h = ap (λ x. and_next x with_action) h

  pub after_action : (p : Entry) (o : Outcome Entry) → entry_bound principal q.principal (env (codes "principal")) ≡ makes_it p → entry_bound action q.action (env (codes "action")) ≡ o → request_bound s env q ≡ and_next o (with_resource p)
  after_action p o h k = after_principal (makes_it p) h ∙ ap (λ x. and_next x (with_resource p)) k

  pub after_resource : (p a : Entry) (o : Outcome Entry) → entry_bound principal q.principal (env (codes "principal")) ≡ makes_it p → entry_bound action q.action (env (codes "action")) ≡ makes_it a → entry_bound resource q.resource (env (codes "resource")) ≡ o
      → request_bound s env q ≡ and_next o (with_context p a)
  after_resource p a o h k l = after_action p (makes_it a) h k ∙ ap (λ x. and_next x (with_context p a)) l

  pub after_context : (p a r : Entry) (o : Outcome Context) → entry_bound principal q.principal (env (codes "principal")) ≡ makes_it p → entry_bound action q.action (env (codes "action")) ≡ makes_it a → entry_bound resource q.resource (env (codes "resource")) ≡ makes_it r
      → and_next (context_bound q.context (env (codes "context"))) (context_substituted s env) ≡ o
      → request_bound s env q ≡ and_next o (λ c. makes_it (record { principal = p; action = a; resource = r; context = c }))
  after_context p a r o h k l m = after_resource p a (makes_it r) h k l ∙ ap (λ x. and_next x (λ c. makes_it (record { principal = p; action = a; resource = r; context = c }))) m
