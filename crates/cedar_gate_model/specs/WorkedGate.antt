-- The values of the worked examples of acceptance, slices, sessions and lines.
-- Rule: the acceptance rules; the slice; sessions; the lines (docs/RULES.md).
use Rattle.std.specs.Prelude.{ℕ, pos, List, [], ◌∷◌, ◌++◌, codes, Bool, true, false, Option, Some, None, if◌then◌else◌}
use Rattle.std.specs.List.{flat_map}
use Rattle.cedar_expr_model.specs.Name.{Text, Name}
use Rattle.cedar_expr_model.specs.Uid.{Uid, uid_eq}
use Rattle.cedar_expr_model.specs.Value.{truth, long, text, entity, V, prim, record_of, extension, no_fields}
use Rattle.cedar_expr_model.specs.Tree.{principal, action, context, Tree, lit, var, slot, unknown, both, binary, equal, less, plus, remainder, call, get_attr, is_type, principal_slot, string_core, extension_core, no_trees, tree, record_literal, no_tree_fields, tree_field}
use Rattle.cedar_expr_model.specs.Made.{Made, made_prim, made_extension, no_made_fields}
use Rattle.cedar_expr_model.specs.Table.{Table, function_style, Called, gives, fails}
use Rattle.cedar_expr_model.specs.ValueParts.{known}
use Rattle.cedar_store_model.specs.World.{World, Entity, Found, held, not_loaded}
use Rattle.cedar_store_model.specs.Store.{Entities, found_as, unloaded, whole}
use Rattle.cedar_store_model.specs.Answer.{Answer, allow, deny, answer_of}
use Rattle.cedar_store_model.specs.Policy.{Policy, Effect, permit, forbid, exactly, named}
use Rattle.cedar_schema_model.specs.Declarations.{Declarations, ActionDeclaration, bag, standard_expr, no_field_exprs}
use Rattle.cedar_schema_model.specs.ActionEntities.{as_entity}
use Rattle.cedar_schema_model.specs.DeclWorked.{m, user_fragment, view_declared, plain}
use Rattle.cedar_typechecker_model.specs.Worked.{user, doc, user_a, doc_d, view, edit, blue, no_table, permits_when, is_ok, owned_by_staff, false_, in_slot_of, plain_name, uid_of, function}
use Rattle.cedar_typechecker_model.specs.Verdicts.{RequestType}
use Rattle.cedar_evaluator_model.specs.Scope.{MadeCalled, makes, faults, Entry, uid, unknown_uid, Context, closed, residual_fields}
use Rattle.cedar_evaluator_model.specs.Response.{Response, response_of, PartialRequest}
use Rattle.cedar_gate_model.specs.Acceptance.{Submission, schema_in}
use Rattle.cedar_evaluator_model.specs.Functions.{Functions}
use Rattle.cedar_gate_model.specs.Bundle.{Bundle}
use Rattle.cedar_schema_model.specs.Schema.{declares_action}
use Rattle.cedar_gate_model.specs.Session.{Setup, State, at_start, known_now, world_now, scope_now, Supplied}
use Rattle.cedar_gate_model.specs.Runs.{supplied_by}
use Rattle.cedar_gate_model.specs.RunsAnswer.{Course, session_of}
use Rattle.cedar_gate_model.specs.Transcript.{load, bind_name}
use Rattle.cedar_gate_model.specs.Lines.{line, setup_of}
use Rattle.cedar_gate_model.specs.GateLaws.{Bounds}
use Rattle.std.specs.Map.{lookup}

abbrev pub user_b : Uid
user_b = uid_of user (codes "b")

abbrev pub user_z : Uid
user_z = uid_of user (codes "z")

-- the type has two colons in its one part, so it is no name
abbrev pub no_uid : Uid
no_uid = record { kind = record { path = []; base = codes "a::b" }; id = [] }

abbrev pub alice : Uid
alice = uid_of user (codes "alice")

-- policies by id, with a body
abbrev pub policy : Text → Effect → Tree → Policy
policy id e t = record (permits_when t) { id = id; effect = e }

-- `resource.owner.boss == principal`; the principal alone; unless the principal is ok; nobody
abbrev pub p0 : Policy
p0 = policy (codes "p0") permit owned_by_staff

abbrev pub p1 : Policy
p1 = record (policy (codes "p1") permit (lit (truth true))) { principal = exactly (named user_a) }

abbrev pub p2 : Policy
p2 = policy (codes "p2") forbid is_ok

abbrev pub p3 : Policy
p3 = policy (codes "p3") forbid (lit (truth true))

-- `principal is Doc`
abbrev pub p5 : Policy
p5 = policy (codes "p5") permit (is_type (var principal) doc)

abbrev pub when : Tree → Policy
when t = policy (codes "p") permit t

-- a submission at a level, with the limit 16
abbrev pub submitted : Declarations → ℕ → List Policy → Submission
submitted d n ps = record { declarations = d; policies = ps; table = no_table; level = n; limit = 16 }

abbrev pub within : ℕ → Submission → Submission
within n s = record s { limit = n }

abbrev pub twice_users : Declarations
twice_users = bag (user_fragment ∷ m ∷ [])

-- `principal == ?principal`, `false && unknown`, `false && Action::"edit" == action`, `false && Color::"blue" == principal`
abbrev pub slot_in_body : Policy
slot_in_body = record (in_slot_of (Some user_a)) { body = Some (binary equal (var principal) (slot principal_slot)) }

abbrev pub and_unknown : Tree
and_unknown = both false_ (unknown (codes "u") None)

abbrev pub and_edit : Tree
and_edit = both false_ (binary equal (lit (entity edit)) (var action))

abbrev pub and_blue : Tree
and_blue = both false_ (binary equal (lit (entity blue)) (var principal))

-- a robot may view too
abbrev pub robot : Name
robot = plain_name (codes "Robot")

abbrev pub robots : Declarations
robots = record m { entities = record { namespace = []; word = codes "Robot"; parents = []; kind = standard_expr no_field_exprs None } ∷ m.entities; actions = record view_declared { principals = user ∷ robot ∷ [] } ∷ [] }

abbrev pub p6 : Policy
p6 = policy (codes "p6") permit (is_type (var principal) user)

abbrev pub p7 : Policy
p7 = policy (codes "p7") permit (is_type (var principal) robot)

abbrev pub viewing_by : Name → RequestType
viewing_by n = record { principal = n; action = view; resource = doc }

-- entities
abbrev pub person : Uid → Bool → Entity V
person boss ok = record { attributes = (codes "boss", known (prim (entity boss))) ∷ (codes "ok", known (prim (truth ok))) ∷ []; tags = []; ancestors = [] }

abbrev pub document : Uid → Entity V
document owner = record { attributes = (codes "owner", known (prim (entity owner))) ∷ []; tags = []; ancestors = [] }

abbrev pub staff : Entities
staff = (user_a, person user_a true) ∷ (user_b, person user_a true) ∷ (user_z, person user_z true) ∷ (doc_d, document user_b) ∷ []

abbrev pub without_b : Entities
without_b = (user_a, person user_a true) ∷ (user_z, person user_z true) ∷ (doc_d, document user_b) ∷ []

-- the boss of a is z
abbrev pub below_z : Entities
below_z = (user_a, person user_z true) ∷ (user_b, person user_a true) ∷ (user_z, person user_z true) ∷ (doc_d, document user_b) ∷ []

-- the world of a request by this principal on `Doc::"d"`, over a whole store
abbrev pub world_of : Option Uid → Entities → World
world_of p es = record { principal = p; action = Some view; resource = Some doc_d; context = None; slots = λ s. None; unknowns = λ n. None; table = no_table; store = λ u. found_as whole (lookup (uid_eq u) es) }

-- requests
abbrev pub asking : Entry → Context → PartialRequest
asking p c = record { principal = p; action = uid view; resource = uid doc_d; context = c }

abbrev pub no_context : Context
no_context = closed no_made_fields

abbrev pub by_a : PartialRequest
by_a = asking (uid user_a) no_context

abbrev pub by_some_user : PartialRequest
by_some_user = asking (unknown_uid (Some user)) no_context

abbrev pub by_anyone : PartialRequest
by_anyone = asking (unknown_uid None) no_context

-- `rank` of a text of one digit; its key is the number in two bytes
abbrev pub rank : Name
rank = plain_name (codes "rank")

abbrev pub key_of : Text → Option Text
key_of (c ∷ []) = Some (0 ∷ c ∷ [])
key_of cs = None

abbrev pub rank_with : Text → Option Text → MadeCalled
rank_with s (Some k) = makes (made_extension rank k rank (text s ∷ []))
rank_with s None = faults rank

abbrev pub rank_called : Name → List Made → MadeCalled
rank_called f (made_prim (text s) ∷ []) = rank_with s (key_of s)
rank_called f ms = faults rank

abbrev pub rank_given : Option Text → Called
rank_given (Some k) = gives (extension rank k)
rank_given None = fails rank

abbrev pub rank_answers : Name → List V → Called
rank_answers f (prim (text s) ∷ []) = rank_given (key_of s)
rank_answers f vs = fails rank

abbrev pub ranks : Table
ranks = record { functions = function (codes "rank") function_style (string_core ∷ []) false (Some (extension_core rank)) ∷ []; ordered = rank ∷ []; answers = rank_answers }

abbrev pub with_ranks : Functions
with_ranks = record { table = ranks; calls = rank_called }

abbrev pub no_functions : Functions
no_functions = record { table = no_table; calls = λ f ms. faults f }

-- the context `{r: rank(unknown t)}`
abbrev pub open_rank : Context
open_rank = residual_fields (tree_field (codes "r") (call rank (tree (unknown (codes "t") None) no_trees)) no_tree_fields)

-- the context `{x: unknown}`, by the unknown's name
abbrev pub open_named : Text → Context
open_named n = residual_fields (tree_field (codes "x") (unknown n None) no_tree_fields)

-- `User::"a"` as a name
abbrev pub in_quotes : Text → Text
in_quotes id = 34 ∷ (id ++ 34 ∷ [])

abbrev pub user_text : Text → Text
user_text id = codes "User::" ++ in_quotes id

abbrev pub setup_with : ℕ → Functions → PartialRequest → Entities → Setup
setup_with n f r es = record { schema = schema_in (submitted m n []); level = n; limit = 16; functions = f; start = r; store = λ u. lookup (uid_eq u) es }

abbrev pub text_made : Text → Made
text_made s = made_prim (text s)

abbrev pub uid_made : Uid → Made
uid_made u = made_prim (entity u)

abbrev pub number_made : ℕ → Made
number_made n = made_prim (long (pos n))

-- a state after these bindings and answers
abbrev pub after : List (Text × Made) → List Uid → State
after bs us = record { bound = bs; asked = us }

-- lines, each with its line feed
abbrev pub lines : List Text → Text
lines ts = flat_map line ts

-- a policy that overflows, one whose divisor is zero, and one whose function fails
abbrev pub p4 : Policy
p4 = policy (codes "p4") permit (binary equal (binary plus (lit (long (pos 9223372036854775807))) (lit (long (pos 1)))) (lit (long (pos 0))))

abbrev pub by_zero : Policy
by_zero = policy (codes "p") permit (binary equal (binary remainder (lit (long (pos 7))) (lit (long (pos 0)))) (lit (long (pos 0))))

abbrev pub rank_tree : Text → Tree
rank_tree s = call rank (tree (lit (text s)) no_trees)

abbrev pub ranking : Policy
ranking = policy (codes "p") permit (binary less (rank_tree (codes "xx")) (rank_tree (codes "1")))

-- what the sessions of these examples answer at their end
abbrev pub answer_with : Functions → Entities → List Uid → List Policy → Answer
answer_with f es us ps = answer_of (world_now (setup_with 2 f by_a es) (after [] us)) ps

-- A bundle on users who view users: one policy that holds, of a single user.
abbrev pub view_users : ActionDeclaration
view_users = record view_declared { principals = user ∷ []; resources = user ∷ [] }

abbrev pub users : Declarations
users = record { commons = []; entities = plain [] (codes "User") ∷ []; actions = view_users ∷ [] }

abbrev pub holds : Policy
holds = record (when (binary less (lit (long (pos 1))) (lit (long (pos 2))))) { principal = exactly (named user_a) }

abbrev pub by_a_on_b : PartialRequest
by_a_on_b = record by_a { resource = uid user_b }

abbrev pub bundle_of : Declarations → ℕ → List Policy → PartialRequest → Bundle
bundle_of d n ps r = record { submission = submitted d n ps; start = r; store = []; steps = [] }

abbrev pub good_bundle : Bundle
good_bundle = bundle_of users 0 (holds ∷ []) by_a_on_b

-- one that the gate refuses, and one that is never bound
abbrev pub far_bundle : Bundle
far_bundle = bundle_of m 1 (p0 ∷ []) by_a

abbrev pub open_bundle : Bundle
open_bundle = bundle_of users 0 (holds ∷ []) (record by_a_on_b { principal = unknown_uid None })

-- what is known where nothing is loaded, and where the principal is open
abbrev pub nothing_known : World
nothing_known = known_now (setup_with 2 no_functions by_a staff) at_start

abbrev pub nobody_known : World
nobody_known = known_now (setup_with 2 no_functions by_some_user staff) at_start

-- a store in which the principal isn't ok, and what is known of it after a round in which the principal and the document were loaded
abbrev pub not_ok : Entities
not_ok = (user_a, person user_a false) ∷ (doc_d, document user_b) ∷ []

abbrev pub after_a_round : World
after_a_round = known_now (setup_with 2 no_functions by_a not_ok) (after [] (doc_d ∷ user_a ∷ []))

-- What is known of a store that lacks the owner of the document, after rounds in which the document, the principal and the owner were
-- asked for.
abbrev pub after_an_absence : World
after_an_absence = known_now (setup_with 2 no_functions by_a without_b) (after [] (doc_d ∷ user_a ∷ user_b ∷ []))

-- a whole store in which the principal isn't ok
abbrev pub reviewed : World
reviewed = world_now (setup_with 2 no_functions by_a ((user_b, person user_a true) ∷ not_ok)) at_start

abbrev pub bounds : List Text → List Text → Bounds
bounds must may = record { must = must; may = may }

-- A context `{r: {s: unknown u}}`, and a policy that evaluates its field again: `context.r == context.r`.
abbrev pub open_nested : Context
open_nested = residual_fields (tree_field (codes "r") (record_literal (tree_field (codes "s") (unknown (codes "u") None) no_tree_fields)) no_tree_fields)

abbrev pub compared : Tree
compared = binary equal (get_attr (var context) (codes "r")) (get_attr (var context) (codes "r"))

abbrev pub no_made_store : Uid → Found Made
no_made_store u = not_loaded

abbrev pub nested_with : ℕ → List (Text × Made) → Response
nested_with n bs = response_of (scope_now (setup_with 0 no_functions (asking (uid user_a) open_nested) []) (after bs []) no_made_store) n (when compared ∷ [])

abbrev pub one_field : Made
one_field = number_made 1

-- A world that completes the request of a user on a user: everything is known in it, and nobody is there.
abbrev pub nobody_there : World
nobody_there = record (world_now (setup_of no_functions good_bundle) at_start) { unknowns = λ n. Some (prim (truth true)) }

-- The session of a user on a document at level 2, and supplies for it: right ones, one too many, one too few, one twice, the entity of
-- another, and one that doesn't conform.
abbrev pub ordinary : Setup
ordinary = setup_with 2 no_functions by_a staff

abbrev pub right_supply : Supplied
right_supply = supplied_by ordinary (doc_d ∷ user_a ∷ [])

abbrev pub with_z : Supplied
with_z = supplied_by ordinary (user_a ∷ doc_d ∷ user_z ∷ [])

abbrev pub only_d : Supplied
only_d = supplied_by ordinary (doc_d ∷ [])

abbrev pub twice_d : Supplied
twice_d = supplied_by ordinary (user_a ∷ doc_d ∷ doc_d ∷ [])

abbrev pub b_for_a : Supplied
b_for_a = (user_a, Some (user_b, person user_a true)) ∷ []

abbrev pub without_ok : Entity V
without_ok = record (person user_a true) { attributes = (codes "boss", known (prim (entity user_a))) ∷ [] }

abbrev pub lacks_ok : Supplied
lacks_ok = (user_a, Some (user_a, without_ok)) ∷ []

-- A policy at level 2 over a store of three entities, the action that is asked for, and a user who doesn't conform.
abbrev pub level_two : Submission
level_two = submitted m 2 (p0 ∷ [])

abbrev pub three : Entities
three = (user_a, person user_a true) ∷ (user_b, person user_a true) ∷ (doc_d, document user_b) ∷ (view, as_entity (schema_in level_two) view) ∷ []

abbrev pub three_and_z : Entities
three_and_z = (user_z, without_ok) ∷ three

abbrev pub viewed_by_a : Entities → World
viewed_by_a es = record (world_of (Some user_a) es) { context = Some (record_of no_fields) }

-- the session that loads it, and the answer
abbrev pub loading : Setup
loading = setup_with 2 no_functions by_a three_and_z

abbrev pub p0_allows : Answer
p0_allows = record { decision = allow; reasons = codes "p0" ∷ []; errors = [] }

-- its course, without steps
abbrev pub loaded_course : Course
loaded_course = record { submission = level_two; functions = no_functions; start = by_a; store = loading.store; steps = [] }

-- the store that it is evaluated over at its start: the declared actions
abbrev pub actions_alone : Uid → Found Made
actions_alone u = let s = (session_of loaded_course).schema in if declares_action s u then held (record { attributes = []; tags = []; ancestors = (as_entity s u).ancestors }) else unloaded u

-- the course of a request by some user, who is bound late: to the owner of the document, who isn't the boss
abbrev pub late_course : Course
late_course = record loaded_course { start = by_some_user; steps = load ∷ load ∷ bind_name (codes "principal") (uid_made user_b) ∷ [] }

abbrev pub p0_denies : Answer
p0_denies = record { decision = deny; reasons = []; errors = [] }
