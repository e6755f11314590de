-- Reauthorizing: what is left of the policies is evaluated again, with values for unknowns.
-- Rule: reauthorizing (docs/RULES.md).
use Rattle.std.specs.Prelude.{List, ℕ, Option, Some, None, if◌then◌else◌, codes, true}
use Rattle.std.specs.Str.{bytes_eq}
use Rattle.cedar_expr_model.specs.Name.{Text, name_eq}
use Rattle.cedar_expr_model.specs.Uid.{Uid}
use Rattle.cedar_expr_model.specs.Value.{entity}
use Rattle.cedar_expr_model.specs.Tree.{Tree, record_literal, Var, principal, action, resource, context}
use Rattle.cedar_expr_model.specs.Made.{Made, made_prim, made_record}
use Rattle.cedar_expr_model.specs.Substitution.{Bindings, substituted}
use Rattle.cedar_store_model.specs.Policy.{Policy}
use Rattle.cedar_store_model.specs.Answer.{ids}
use Rattle.cedar_evaluator_model.specs.Scope.{Scope, Entry, uid, unknown_uid, Context, closed, residual_fields, unknown_context, Stop, Left, value_left, residual, stopped}
use Rattle.cedar_evaluator_model.specs.Evaluation.{evaluated}
use Rattle.cedar_evaluator_model.specs.Response.{PartialRequest, Response, response_of}
use Rattle.cedar_evaluator_model.specs.Members.{all_residuals}
use Rattle.std.specs.Option.{option_map_or}
use Rattle.cedar_expr_model.specs.Repeats.{repeated}

-- Why a response isn't reauthorized: an id is repeated; a variable gets no uid, or the context no record; a variable that is known
-- already; a uid of another type than is known of it; the context doesn't evaluate with the values.
pub data Refusal : Type 0 where
  repeated_id : Text → Refusal
  wrong_value known_already other_type : Var → Refusal
  context_stops : Stop → Refusal

-- what is made, or why not
pub data Outcome (A : Type 0) : Type 0 where
  makes_it : A → Outcome A
  refuses : Refusal → Outcome A

abbrev pub and_next : {A B : Type 0} → Outcome A → (A → Outcome B) → Outcome B
and_next (makes_it a) next = next a
and_next (refuses r) next = refuses r

-- the policies, of distinct ids
abbrev pub distinct : List Policy → Outcome (List Policy)
distinct ps = option_map_or (λ i. refuses (repeated_id i)) (repeated bytes_eq (ids ps)) (makes_it ps)

-- an entry with a uid for it
abbrev pub entry_with : Var → Uid → Entry → Outcome Entry
entry_with x u (uid v) = refuses (known_already x)
entry_with x u (unknown_uid k) = if option_map_or (λ n. name_eq n u.kind) k true then makes_it (uid u) else refuses (other_type x)

-- An entry with the value for its name, if there is one: it must be a uid, and the entry unknown and of the uid's type.
abbrev pub entry_bound : Var → Entry → Option Made → Outcome Entry
entry_bound x e None = makes_it e
entry_bound x e (Some (made_prim (entity u))) = entry_with x u e
entry_bound x e (Some m) = refuses (wrong_value x)

-- a context with the value for `context`, if there is one: it must be a record, and the context unknown
abbrev pub context_bound : Context → Option Made → Outcome Context
context_bound c None = makes_it c
context_bound unknown_context (Some (made_record fs)) = makes_it (closed fs)
context_bound c (Some (made_record fs)) = refuses (known_already context)
context_bound c (Some m) = refuses (wrong_value context)

-- what is left of a restricted expression, in the scope without slots and values: the limit on its depth is fixed
abbrev pub restricted_left : Scope → Tree → Left
restricted_left s t = evaluated (record s { slots = λ x. None; values = λ n. None }) 512 t

-- the context that an evaluated record is, if it is one
abbrev pub context_from : Left → Option Context
context_from (value_left (made_record fs)) = Some (closed fs)
context_from (residual (record_literal fs)) = Some (residual_fields fs)
context_from l = None

abbrev pub context_made : Left → Outcome Context
context_made (stopped r) = refuses (context_stops r)
context_made l = option_map_or makes_it (context_from l) (refuses (wrong_value context))

-- The unknowns of a residual context replaced by their values, whatever their annotations, and what is left evaluated; a context of
-- values stays, and an unknown one.
abbrev pub context_substituted : Scope → Bindings → Context → Outcome Context
context_substituted s env (residual_fields fs) = context_made (restricted_left s (substituted env (record_literal fs)))
context_substituted s env c = makes_it c

-- A request under values for unknowns: principal, action, resource and context, one after the other.
abbrev pub request_bound : Scope → Bindings → PartialRequest → Outcome PartialRequest
request_bound s env q =
    and_next (entry_bound principal q.principal (env (codes "principal")))
    (λ p. and_next (entry_bound action q.action (env (codes "action")))
    (λ a. and_next (entry_bound resource q.resource (env (codes "resource")))
    (λ r. and_next (and_next (context_bound q.context (env (codes "context"))) (context_substituted s env)) (λ c. makes_it (record { principal = p; action = a; resource = r; context = c })))))

-- the scope with another request, in which unknowns have these values
abbrev pub resumed : Scope → Bindings → PartialRequest → Scope
resumed s env q = record s { principal = q.principal; action = q.action; resource = q.resource; context = q.context; values = env }

-- The response to what is left of the policies, under values for unknowns. Table and store are those of the scope.
abbrev pub reauthorized : Scope → ℕ → Bindings → Response → Outcome Response
reauthorized s n env r = and_next (distinct (all_residuals r)) (λ ps. and_next (request_bound s env r.request) (λ q. makes_it (response_of (resumed s env q) n ps)))
