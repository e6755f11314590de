-- The values of the worked examples of reading.
-- Rule: what a bundle reads as (docs/RULES.md).
use Rattle.std.specs.Prelude.{◌==◌, ℕ, zero, suc, List, [], ◌∷◌, ◌++◌, map, Bool, false, is_some, is_none, codes, if◌then◌else◌, Option, Some, None, pos}
use Rattle.std.specs.List.{list_all}
use Rattle.std.specs.Str.{bytes_eq}
use Rattle.serde_json.specs.Data.{Data, string, array, object, item, no_items, member, no_members}
use Rattle.serde_json.specs.Read.{read}
use Rattle.cedar_expr_model.specs.Name.{Text, Name}
use Rattle.cedar_expr_model.specs.Uid.{Uid}
use Rattle.cedar_expr_model.specs.Value.{long, text, V, prim, extension}
use Rattle.cedar_expr_model.specs.Tree.{string_core, extension_core, less, lit, binary}
use Rattle.cedar_expr_model.specs.Made.{Made, made_prim, made_extension, no_made_fields}
use Rattle.cedar_expr_model.specs.Table.{function_style, Signature, Called, gives, fails}
use Rattle.cedar_schema_model.specs.Declarations.{record_expr, no_field_exprs, standard_expr, CommonDeclaration, EntityDeclaration, ActionDeclaration, Declarations}
use Rattle.cedar_store_model.specs.Policy.{Policy, permit, named, any, exactly, any_action, no_bindings}
use Rattle.cedar_store_model.specs.World.{Entity}
use Rattle.cedar_evaluator_model.specs.Scope.{MadeCalled, makes, faults, uid, unknown_uid, closed}
use Rattle.cedar_gate_model.specs.Reading.{given}
use Rattle.cedar_gate_model.specs.Acceptance.{Submission}
use Rattle.cedar_evaluator_model.specs.Functions.{Functions}
use Rattle.cedar_gate_model.specs.Bundle.{Bundle}
use Rattle.cedar_evaluator_model.specs.Response.{PartialRequest}
use Rattle.cedar_gate_model.specs.ReadingBundle.{bundle_read}

-- the text with a double quote for each single one
abbrev pub quote_for : ℕ → ℕ
quote_for b = if b == 39 then 34 else b

abbrev pub with_quotes : Text → Text
with_quotes s = map quote_for s

-- what the text is read as, where this is due
abbrev pub reads_as : {A : Type 0} → (Data → Option A) → Text → Option A
reads_as form s = given (read (with_quotes s)) form

-- each of these texts is JSON of that form
abbrev pub takes : {A : Type 0} → (Data → Option A) → List Text → Bool
takes form texts = list_all (λ s. is_some (reads_as form s)) texts

-- each of these texts is JSON, but not of that form
abbrev pub is_refused : {A : Type 0} → (Data → Option A) → Option Data → Bool
is_refused form None = false
is_refused form (Some d) = is_none (form d)

abbrev pub refuses : {A : Type 0} → (Data → Option A) → List Text → Bool
refuses form texts = list_all (λ s. is_refused form (read (with_quotes s))) texts

abbrev pub name : Text → Name
name base = record { path = []; base = base }

abbrev pub name_under : Text → Text → Name
name_under part base = record { path = part ∷ []; base = base }

abbrev pub user_a : Uid
user_a = record { kind = name (codes "User"); id = codes "a" }

abbrev pub view : Uid
view = record { kind = name (codes "Action"); id = codes "view" }

-- the action `view` without parents, types and context
abbrev pub plain_action : ActionDeclaration
plain_action = record { namespace = []; id = codes "view"; parents = []; principals = []; resources = []; context = record_expr no_field_exprs; is_external = false }

abbrev pub declaring : List CommonDeclaration → List ActionDeclaration → Declarations
declaring commons actions = record { commons = commons; entities = []; actions = actions }

-- a permit of everything
abbrev pub plain_policy : Policy
plain_policy = record {
  id = codes "p";
  effect = permit;
  annotations = [];
  principal = any;
  action = any_action;
  resource = any;
  body = None;
  bindings = no_bindings;
}

-- An extension type with a constructor, which fails at the text `x` alone. The key is the text.
abbrev pub rank : Name
rank = name (codes "rank")

abbrev pub rank_of : Text → Made
rank_of k = made_extension rank k rank (text k ∷ [])

abbrev pub rank_signature : Signature
rank_signature =
    record { name = rank; style = function_style; parameters = string_core ∷ []; is_variadic = false; result = Some (extension_core rank) }

abbrev pub rank_answers : Name → List V → Called
rank_answers f (prim (text k) ∷ []) = if bytes_eq k (codes "x") then fails rank else gives (extension rank k)
rank_answers f vs = fails rank

abbrev pub rank_calls : Name → List Made → MadeCalled
rank_calls f (made_prim (text k) ∷ []) = if bytes_eq k (codes "x") then faults rank else makes (rank_of k)
rank_calls f ms = faults rank

abbrev pub ranks : Functions
ranks = record { table = record { functions = rank_signature ∷ []; ordered = rank ∷ []; answers = rank_answers }; calls = rank_calls }

-- sets in sets, this many of them
abbrev pub nested : ℕ → Data
nested zero = array (item (string (codes "set")) no_items)
nested (suc n) = array (item (string (codes "set")) (item (nested n) no_items))

-- an object with one member
abbrev pub only_member : Text → Data → Data
only_member key d = object (member key d no_members)

-- the usual parts of a bundle
abbrev pub usual_parts : List (Text × Text)
usual_parts =
    (codes "version", codes "1")
    ∷ (codes "level", codes "0")
    ∷ (codes "limit", codes "16")
    ∷ (codes "schema", codes "[{'':{'entityTypes':{'User':{}},'actions':{'view':{'principals':['User'],'resources':['User']}}}}]")
    ∷ (codes "policies", codes "[{'id':'p','effect':'permit','principal':{'eq':['User','a']},'when':['less',1,2]}]")
    ∷ (codes "request", codes "{'principal':['User','a'],'action':['Action','view'],'resource':['User','b']}")
    ∷ (codes "store", codes "[]")
    ∷ []

abbrev pub member_text : Text × Text → Text
member_text p = codes "'" ++ (p.0 ++ (codes "':" ++ p.1))

abbrev pub members_text : List (Text × Text) → Text
members_text [] = []
members_text (p ∷ []) = member_text p
members_text (p ∷ q ∷ ps) = member_text p ++ (codes "," ++ members_text (q ∷ ps))

abbrev pub object_text : List (Text × Text) → Text
object_text ps = codes "{" ++ (members_text ps ++ codes "}")

abbrev pub without : Text → List (Text × Text) → List (Text × Text)
without key [] = []
without key (p ∷ ps) = if bytes_eq key p.0 then without key ps else p ∷ without key ps

-- the usual bundle, and the same with another value for a part, or without it
abbrev pub usual_text : Text
usual_text = object_text usual_parts

abbrev pub lacking : Text → Text
lacking key = object_text (without key usual_parts)

abbrev pub with_part : Text → Text → Text
with_part key value = object_text ((key, value) ∷ without key usual_parts)

-- the usual bundle with one policy of this id
abbrev pub with_id : Text → Text
with_id id = with_part (codes "policies") (codes "[{'id':'" ++ (id ++ codes "','effect':'permit'}]"))

-- the usual bundle in this version, with a policy that has the operator `rem`
abbrev pub with_rem : Text → Text
with_rem version = object_text ((codes "version", version) ∷ (codes "policies", codes "[{'id':'p','effect':'permit','when':['eq',['rem',7,2],1]}]") ∷ without (codes "version") (without (codes "policies") usual_parts))

-- the bundle is read with each of these values, or with none of them
abbrev pub takes_part : Text → List Text → Bool
takes_part key values = takes (bundle_read ranks) (map (with_part key) values)

abbrev pub refuses_part : Text → List Text → Bool
refuses_part key values = refuses (bundle_read ranks) (map (with_part key) values)

-- the request of the user a to view, with an unknown resource
abbrev pub plain_start : PartialRequest
plain_start = record { principal = uid user_a; action = uid view; resource = unknown_uid None; context = closed no_made_fields }

abbrev pub plain_entity : Entity V
plain_entity = record { attributes = []; tags = []; ancestors = [] }

-- the type `User` without attributes
abbrev pub plain_user : EntityDeclaration
plain_user = record { namespace = []; word = codes "User"; parents = []; kind = standard_expr no_field_exprs None }

-- what the usual bundle says
abbrev pub usual_submission : Submission
usual_submission = record {
  declarations = record {
    commons = [];
    entities = plain_user ∷ [];
    actions = record plain_action { principals = name (codes "User") ∷ []; resources = name (codes "User") ∷ [] } ∷ [];
  };
  policies = record plain_policy { principal = exactly (named user_a); body = Some (binary less (lit (long (pos 1))) (lit (long (pos 2)))) } ∷ [];
  table = ranks.table;
  level = 0;
  limit = 16;
}

abbrev pub usual_bundle : Bundle
usual_bundle = record {
  submission = usual_submission;
  start = record plain_start { resource = uid (record user_a { id = codes "b" }) };
  store = [];
  steps = [];
}

abbrev pub tail : Text → Text
tail [] = []
tail (b ∷ bs) = bs

-- the text without its last byte
abbrev pub but_last : Text → Text
but_last [] = []
but_last (b ∷ []) = []
but_last (b ∷ c ∷ bs) = b ∷ but_last (c ∷ bs)

-- brackets that are opened, and closed
abbrev pub brackets : ℕ → Text → Text
brackets zero inner = inner
brackets (suc n) inner = 91 ∷ brackets n (inner ++ 93 ∷ [])
