-- Reading requests, stores and steps.
-- Rule: what a bundle reads as (docs/RULES.md).
use Rattle.std.specs.Prelude.{List, [], ◌∷◌, ◌++◌, if◌then◌else◌, codes, Option, Some, None, option_map}
use Rattle.std.specs.List.{list_any}
use Rattle.serde_json.specs.Data.{Data}
use Rattle.serde_json.specs.Find.{as_str}
use Rattle.cedar_expr_model.specs.Name.{Text}
use Rattle.cedar_expr_model.specs.Uid.{Uid, uid_eq}
use Rattle.cedar_expr_model.specs.Value.{V}
use Rattle.cedar_expr_model.specs.Made.{no_made_fields, bare}
use Rattle.cedar_expr_model.specs.ValueParts.{Part, known}
use Rattle.cedar_store_model.specs.World.{Entity}
use Rattle.cedar_evaluator_model.specs.Scope.{Entry, uid, unknown_uid, closed}
use Rattle.cedar_gate_model.specs.Reading.{given, required, optional, has_only, list_of, members_of}
use Rattle.cedar_evaluator_model.specs.Functions.{Functions}
use Rattle.cedar_gate_model.specs.Transcript.{Step, load, bind_name, decide}
use Rattle.cedar_gate_model.specs.ReadingForms.{word_of, first_form, alone, if_passing, read_as}
use Rattle.cedar_gate_model.specs.ReadingName.{plain_name_read, uid_read}
use Rattle.cedar_gate_model.specs.ReadingValue.{value_read, context_read}
use Rattle.cedar_store_model.specs.Store.{are_distinct}
use Rattle.cedar_evaluator_model.specs.Response.{PartialRequest}
use Rattle.cedar_expr_model.specs.Lists.{when}

-- a principal, action or resource: a uid, an unknown one, or an unknown one of a type
abbrev pub entry_read : Data → Option Entry
entry_read d =
    first_form (read_as uid uid_read ∷ word_of ((codes "unknown", unknown_uid None) ∷ []) ∷ alone (codes "unknown") (read_as (λ n. unknown_uid (Some n)) plain_name_read) ∷ []) d

-- A request. A context that lacks is empty.
abbrev pub request_read : Functions → Data → Option PartialRequest
request_read x d =
    when (has_only (codes "principal" ∷ codes "action" ∷ codes "resource" ∷ codes "context" ∷ []) d)
    (given (required (codes "principal") entry_read d) (λ principal.
    given (required (codes "action") entry_read d) (λ action.
    given (required (codes "resource") entry_read d) (λ resource.
    option_map (λ context. record { principal = principal; action = action; resource = resource; context = context })
    (optional (codes "context") (context_read x) (closed no_made_fields) d)))))

-- attributes, or tags
abbrev pub parts_read : Functions → Data → Option (List (Text × Part V))
parts_read x d = members_of (λ name e. option_map (λ m. (name, known (bare m))) (value_read x e)) d

-- one more uid, unless it is there; and each of these
abbrev pub with_uid : List Uid → Uid → List Uid
with_uid us u = if list_any (uid_eq u) us then us else us ++ u ∷ []

abbrev pub with_uids : List Uid → List Uid → List Uid
with_uids us [] = us
with_uids us (v ∷ vs) = with_uids (with_uid us v) vs

-- An entity and its uid. Its ancestors are recorded, each once.
abbrev pub entity_read : Functions → Data → Option (Uid × Entity V)
entity_read x d =
    when (has_only (codes "uid" ∷ codes "attrs" ∷ codes "tags" ∷ codes "ancestors" ∷ []) d)
    (given (required (codes "uid") uid_read d) (λ u.
    given (optional (codes "attrs") (parts_read x) [] d) (λ attributes.
    given (optional (codes "tags") (parts_read x) [] d) (λ tags.
    option_map (λ ancestors. (u, record { attributes = attributes; tags = tags; ancestors = with_uids [] ancestors }))
    (optional (codes "ancestors") (list_of uid_read) [] d)))))

-- a store, in which no uid is repeated
abbrev pub store_read : Functions → Data → Option (List (Uid × Entity V))
store_read x d = given (list_of (entity_read x) d) (if_passing are_distinct)

-- a binding of a name, which is any text, to a value
abbrev pub binding_read : Functions → Data → Option Step
binding_read x d =
    when (has_only (codes "bind" ∷ codes "value" ∷ []) d) (given (required (codes "bind") as_str d) (λ name. option_map (bind_name name) (required (codes "value") (value_read x) d)))

abbrev pub step_read : Functions → Data → Option Step
step_read x d = first_form (word_of ((codes "load", load) ∷ (codes "decide", decide) ∷ []) ∷ binding_read x ∷ []) d

-- the steps of a bundle, which are none where the key lacks
abbrev pub steps_read : Functions → Data → Option (List Step)
steps_read x d = optional (codes "steps") (list_of (step_read x)) [] d
