-- The values of the worked examples of partial responses and of reauthorizing.
-- Rule: partial responses; reauthorizing (docs/RULES.md).
use Rattle.std.specs.Prelude.{[], ◌∷◌, codes, true, Option, Some, None, if◌then◌else◌}
use Rattle.std.specs.Str.{bytes_eq}
use Rattle.cedar_expr_model.specs.Name.{Text}
use Rattle.cedar_expr_model.specs.Uid.{Uid}
use Rattle.cedar_expr_model.specs.Value.{entity}
use Rattle.cedar_expr_model.specs.Tree.{Tree, principal_slot, lit, var, slot, unknown, both, binary, equal, get_attr, principal, resource, context, no_tree_fields, tree_field}
use Rattle.cedar_expr_model.specs.Made.{Made, made_prim}
use Rattle.cedar_store_model.specs.Policy.{Policy, Effect, permit, forbid, any, any_action, exactly, named, no_bindings}
use Rattle.cedar_store_model.specs.Answer.{Decision}
use Rattle.cedar_evaluator_model.specs.Scope.{Scope, uid, unknown_uid, residual_fields}
use Rattle.cedar_evaluator_model.specs.Response.{Noted, no_error, with_error, Response, request_of, response_of}
use Rattle.cedar_evaluator_model.specs.Members.{decision}
use Rattle.cedar_evaluator_model.specs.Reauthorize.{Outcome, makes_it, refuses, Refusal, reauthorized}
use Rattle.cedar_evaluator_model.specs.Worked.{entity_of, user_a, number, made_number, made_truth, false_tree, unknown_a, scope, bare_scope}

-- a policy for every request, with a body
abbrev pub policy : Text → Effect → Option Tree → Policy
policy i e b = record { id = i; effect = e; annotations = []; principal = any; action = any_action; resource = any; body = b; bindings = no_bindings }

abbrev pub note : Text → Noted
note i = record { id = i; annotations = [] }

-- 1 permits `User::"a"`, 2 forbids it when false, and 3 permits it when unknown `test`
abbrev pub test : Tree
test = unknown (codes "test") None

abbrev pub policy_1 : Policy
policy_1 = record (policy (codes "1") permit None) { principal = exactly (named user_a); annotations = (codes "k", codes "v") ∷ [] }

abbrev pub policy_2 : Policy
policy_2 = record (policy (codes "2") forbid (Some false_tree)) { principal = exactly (named user_a) }

abbrev pub policy_3 : Policy
policy_3 = record (policy (codes "3") permit (Some test)) { principal = exactly (named user_a) }

abbrev pub three : Response
three = response_of scope 16 (policy_1 ∷ policy_2 ∷ policy_3 ∷ [])

-- permits when false, and when unknown `a`
abbrev pub permit_false : Policy
permit_false = policy (codes "f") permit (Some false_tree)

abbrev pub permit_unknown : Policy
permit_unknown = policy (codes "a") permit (Some unknown_a)

abbrev pub forbid_unknown : Policy
forbid_unknown = policy (codes "x") forbid (Some unknown_a)

-- permits when unknown `a`, and when what `?principal` is bound to, which is `User::"a"`, is `User::"a"`
abbrev pub slot_policy : Policy
slot_policy = record (policy (codes "s") permit (Some (both unknown_a (binary equal (slot principal_slot) (lit (entity user_a)))))) { bindings = record { principal = Some user_a; resource = None } }

-- Its response within a limit that leaves the equality as it is written.
abbrev pub with_slot : Response
with_slot = response_of scope 5 (slot_policy ∷ [])

abbrev pub two : Response
two = response_of scope 16 (permit_false ∷ permit_unknown ∷ [])

-- 1 permits all; 2 permits and 3 forbids when `context.bad == 2`; 4 forbids all
abbrev pub bad : Tree
bad = binary equal (get_attr (var context) (codes "bad")) (number 2)

abbrev pub all_1 : Policy
all_1 = policy (codes "1") permit None

abbrev pub bad_2 : Policy
bad_2 = policy (codes "2") permit (Some bad)

abbrev pub bad_3 : Policy
bad_3 = policy (codes "3") forbid (Some bad)

abbrev pub all_4 : Policy
all_4 = policy (codes "4") forbid None

-- Satisfied permit a, false permits b (which erred) and c, residual permit d, satisfied forbid e, residual forbid h.
abbrev pub groups : Response
groups =
    record {
      true_permits = note (codes "a") ∷ [];
      false_permits = (note (codes "b"), with_error) ∷ (note (codes "c"), no_error) ∷ [];
      residual_permits = (note (codes "d"), unknown_a) ∷ [];
      true_forbids = note (codes "e") ∷ [];
      false_forbids = [];
      residual_forbids = (note (codes "h"), unknown_a) ∷ [];
      errors = [];
      request = request_of scope;
    }

-- those groups without the satisfied forbid
abbrev pub without_forbid : Response
without_forbid = record groups { true_forbids = [] }

-- and without the residual one
abbrev pub permits_alone : Response
permits_alone = record groups { true_forbids = []; residual_forbids = [] }

-- A permit when `principal == NS::"a" && resource == NS::"b"`, and a forbid when `context.c && context.d == 10`; the principal is
-- `NS::"a"`, action and resource are unknown, and the context is {c: unknown c, d: unknown d}.
abbrev pub ns_a : Uid
ns_a = entity_of (codes "NS") (codes "a")

abbrev pub ns_b : Uid
ns_b = entity_of (codes "NS") (codes "b")

abbrev pub permit_both : Policy
permit_both = policy (codes "p") permit (Some (both (binary equal (var principal) (lit (entity ns_a))) (binary equal (var resource) (lit (entity ns_b)))))

abbrev pub forbid_both : Policy
forbid_both = policy (codes "f") forbid (Some (both (get_attr (var context) (codes "c")) (binary equal (get_attr (var context) (codes "d")) (number 10))))

abbrev pub half_scope : Scope
half_scope =
    record bare_scope {
      principal = uid ns_a;
      action = unknown_uid None;
      resource = unknown_uid None;
      context = residual_fields (tree_field (codes "c") (unknown (codes "c") None) (tree_field (codes "d") (unknown (codes "d") None) no_tree_fields));
    }

abbrev pub half : Response
half = response_of half_scope 32 (permit_both ∷ forbid_both ∷ [])

-- values for unknowns
abbrev pub no_bound : Text → Option Made
no_bound n = None

abbrev pub bound : Text → Made → (Text → Option Made) → Text → Option Made
bound n m rest k = if bytes_eq n k then Some m else rest k

abbrev pub resource_b : Text → Option Made
resource_b = bound (codes "resource") (made_prim (entity ns_b)) no_bound

abbrev pub true_and_ten : Text → Option Made
true_and_ten = bound (codes "c") (made_truth true) (bound (codes "d") (made_number 10) no_bound)

-- what comes after another reauthorizing
abbrev pub again : (Text → Option Made) → Outcome Response → Outcome Response
again env (makes_it r) = reauthorized bare_scope 32 env r
again env (refuses x) = refuses x

abbrev pub with_resource : Outcome Response
with_resource = reauthorized bare_scope 32 resource_b half

abbrev pub with_all : Outcome Response
with_all = again true_and_ten with_resource

abbrev pub decided_now : Outcome Response → Option Decision
decided_now (makes_it r) = decision r
decided_now (refuses x) = None

-- why it is refused, if it is
abbrev pub refusal : {A : Type 0} → Outcome A → Option Refusal
refusal (makes_it a) = None
refusal (refuses x) = Some x

-- `context.r == context.r`, whose field is evaluated again
abbrev pub deep_policy : Policy
deep_policy = policy (codes "p") permit (Some (binary equal (get_attr (var context) (codes "r")) (get_attr (var context) (codes "r"))))
