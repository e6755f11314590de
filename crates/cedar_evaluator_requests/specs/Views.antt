-- What requests and their answers are in the model.
-- Rule: partial evaluation; partial responses (docs/RULES.md).
use Rattle.std.specs.Prelude.{List, [], ◌∷◌, map, Option, Some, None, codes}
use Rattle.std.specs.Borrow.{Bor}
use Rattle.std.specs.Map.{keys_of}
use Rattle.std.specs.Rc.{rc_str_bytes}
use Rattle.std.specs.declared.alloc.Global.{Global}
use Rattle.std.specs.declared.rc.RcStr.{RcStr}
use Rattle.cedar_expr_names.specs.Views.{uid_of, type_name_of}
use Rattle.cedar_expr_names.specs.declared.entity.EntityUID.{EntityUID}
use Rattle.cedar_expr_names.specs.declared.loc.Loc.{Loc}
use Rattle.cedar_expr_model.specs.Name.{Text, Name}
use Rattle.cedar_expr_model.specs.Uid.{Uid}
use Rattle.cedar_expr_model.specs.Made.{MadeFields, no_made_fields, made_field}
use Rattle.cedar_expr_model.specs.Tree.{Tree, Var, principal, action, resource, context}
use Rattle.cedar_expr_values.specs.Extensions.{extension_of}
use Rattle.cedar_expr_values.specs.Values.{fields_made}
use Rattle.cedar_expr_trees.specs.Trees.{tree_of}
use Rattle.std.specs.Prelude.{option_map}
use Rattle.cedar_store_parts.specs.Parts.{id_text}
use Rattle.cedar_store_model.specs.Answer as model
use Rattle.cedar_evaluator_model.specs.Scope as scope
use Rattle.cedar_evaluator_model.specs.Scope.{Entry}
use Rattle.cedar_evaluator_model.specs.Response.{PartialRequest, ResponseError}
use Rattle.cedar_evaluator_model.specs.Members.{Concrete}
use Rattle.cedar_evaluator_errors.specs.Outcomes.{cause_of}
use Rattle.cedar_evaluator_errors.specs.declared.err.EvaluationError.{EvaluationError}
use Rattle.cedar_evaluator_requests.specs.Fields.{fields_in, fields_tree}
use Rattle.cedar_evaluator_requests.specs.declared.entry.EntityUIDEntry.{EntityUIDEntry}
use Rattle.cedar_evaluator_requests.specs.declared.entry.EntityUIDEntry.TheVariants as entry
use Rattle.cedar_evaluator_requests.specs.declared.context.Context.{Context}
use Rattle.cedar_evaluator_requests.specs.declared.context.Context.TheVariants as known
use Rattle.cedar_evaluator_requests.specs.declared.context.RestrictedFields.{RestrictedFields}
use Rattle.cedar_evaluator_requests.specs.declared.request.Request.{Request}
use Rattle.cedar_evaluator_requests.specs.declared.response.Decision.{Decision}
use Rattle.cedar_evaluator_requests.specs.declared.response.Decision.TheVariants.{Allow, Deny}
use Rattle.cedar_evaluator_requests.specs.declared.response.AuthorizationError.{AuthorizationError}
use Rattle.cedar_evaluator_requests.specs.declared.response.AuthorizationError.TheVariants.{PolicyEvaluationError}
use Rattle.cedar_evaluator_requests.specs.declared.response.Response.{Response}

-- the name of a variable
abbrev pub name_of_var : Var → Text
name_of_var principal = codes "principal"
name_of_var action = codes "action"
name_of_var resource = codes "resource"
name_of_var context = codes "context"

-- an entry of a request, and its place
abbrev pub entry_of : EntityUIDEntry → Entry
entry_of (entry.Known u l) = scope.uid (uid_of u.value)
entry_of (entry.Unknown k l) = scope.unknown_uid (option_map type_name_of k)

abbrev pub entry_place : EntityUIDEntry → Option Loc
entry_place (entry.Known u l) = l
entry_place (entry.Unknown k l) = l

-- the uid of an entry and its type, as far as they are known
abbrev pub entry_uid : Entry → Option Uid
entry_uid (scope.uid u) = Some u
entry_uid (scope.unknown_uid k) = None

abbrev pub entry_type : Entry → Option Name
entry_type (scope.uid u) = Some u.kind
entry_type (scope.unknown_uid k) = k

-- a uid that is lent, where there is one
abbrev pub uid_lent : Option (Bor EntityUID) → Option Uid
uid_lent u = option_map (λ b. uid_of b.now) u

-- the record of fields that aren't values yet
abbrev pub restricted_tree : RestrictedFields → Tree
restricted_tree r = fields_tree r.fields.value.entries

abbrev pub context_of : Context → scope.Context
context_of (known.Value fs) = scope.closed (fields_made extension_of fs)
context_of (known.RestrictedResidual r) = scope.residual_fields (fields_in r.fields.value.entries)

-- the names of fields, in order
abbrev pub names_made : MadeFields → List Text
names_made no_made_fields = []
names_made (made_field a m fs) = a ∷ names_made fs

-- the names of a context's fields, in order
abbrev pub keys_of_context : Context → List Text
keys_of_context (known.Value fs) = names_made (fields_made extension_of fs)
keys_of_context (known.RestrictedResidual r) = map (λ e. rc_str_bytes e.0) r.fields.value.entries

-- a context, where there is one
abbrev pub context_or_unknown : Option Context → scope.Context
context_or_unknown (Some c) = context_of c
context_or_unknown None = scope.unknown_context

-- the request
abbrev pub request_of : Request → PartialRequest
request_of q = record { principal = entry_of q.principal; action = entry_of q.action; resource = entry_of q.resource; context = context_or_unknown q.context }

-- the request of these uids and this context, and the request of these entries
abbrev pub request_by_uids : EntityUID → EntityUID → EntityUID → Context → PartialRequest
request_by_uids p a r c = record { principal = scope.uid (uid_of p); action = scope.uid (uid_of a); resource = scope.uid (uid_of r); context = context_of c }

abbrev pub request_by_entries : EntityUIDEntry → EntityUIDEntry → EntityUIDEntry → Option Context → PartialRequest
request_by_entries p a r c = record { principal = entry_of p; action = entry_of a; resource = entry_of r; context = context_or_unknown c }

-- the places of its entries
abbrev pub principal_place : Request → Option Loc
principal_place q = entry_place q.principal

abbrev pub action_place : Request → Option Loc
action_place q = entry_place q.action

abbrev pub resource_place : Request → Option Loc
resource_place q = entry_place q.resource

-- a decision, an error of a policy, and an answer
abbrev pub decision_of : Decision → model.Decision
decision_of Allow = model.allow
decision_of Deny = model.deny

abbrev pub error_of : AuthorizationError → ResponseError
error_of (PolicyEvaluationError i e) = record { id = id_text i; cause = cause_of e }

-- the error of evaluation that an error of a policy reports
abbrev pub error_in : AuthorizationError → EvaluationError
error_in (PolicyEvaluationError i e) = e

abbrev pub answer_of : Response → Concrete
answer_of r = record { decision = decision_of r.decision; reasons = map id_text r.diagnostics.reason.keys; errors = map error_of r.diagnostics.errors.items }
