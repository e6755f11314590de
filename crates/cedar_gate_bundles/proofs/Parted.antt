-- What is read of inputs, contexts, steps and entities, by their parts.
use Rattle.std.proofs.Common.{◌≡◌, ℕ, List, [], ◌∷◌, map, true, false, codes, Global, Option, Some, None, option_map, refl, ap, sym, ◌∙◌}
use Rattle.std.specs.Prelude.{is_none, if◌then◌else◌}
use Rattle.std.specs.Option.{option_or}
use Rattle.std.specs.Rc.{rc_str_bytes}
use Rattle.std.specs.Str.{is_utf8}
use Rattle.std.specs.declared.rc.RcStr.{RcStr}
use Rattle.serde_json.specs.Data.{Data, object, Members, no_members, member}
use Rattle.serde_json.specs.Find.{as_object, get}
use Rattle.serde_json.specs.Read.{read}
use Rattle.cedar_expr_model.specs.Name.{Text}
use Rattle.cedar_expr_model.specs.Uid.{Uid, uid_eq}
use Rattle.cedar_expr_model.specs.Lists.{when, rises}
use Rattle.cedar_expr_model.specs.Made.{Made, bare}
use Rattle.cedar_expr_model.specs.Order.{text_cmp}
use Rattle.cedar_expr_model.specs.Records.{in_order, names_rise}
use Rattle.cedar_expr_model.specs.Repeats.{repeated}
use Rattle.cedar_expr_model.specs.Value.{V}
use Rattle.cedar_expr_model.specs.ValueParts.{Part, known}
use Rattle.cedar_expr_model.proofs.Ordering.{in_order_stays}
use Rattle.cedar_expr_values.specs.Extensions.{extension_of}
use Rattle.cedar_expr_values.specs.Values.{made}
use Rattle.cedar_expr_values.specs.declared.extension.ExtValue.{ExtValue}
use Rattle.cedar_expr_values.specs.declared.value.Value.{Value}
use Rattle.cedar_store_model.specs.Store.{Store, whole, all_of, store_of, are_distinct}
use Rattle.cedar_store_model.specs.World as world
use Rattle.cedar_store_entities.specs.Recorded.{all_recorded}
use Rattle.cedar_store_entities.specs.Views.{entity_uid, entity_seen, entity_pair, value_pair}
use Rattle.cedar_store_entities.specs.declared.entity.Entity.{Entity}
use Rattle.cedar_evaluator_model.specs.Reauthorize.{context_from}
use Rattle.cedar_evaluator_model.specs.Scope.{Left}
use Rattle.cedar_gate_model.specs.Reading.{given, if_there, required, optional, has_only, list_of, members_of, each_member}
use Rattle.cedar_evaluator_model.specs.Functions.{Functions}
use Rattle.cedar_gate_model.specs.ReadingBundle.{bundle_read, input_read}
use Rattle.cedar_gate_model.specs.ReadingForms.{if_passing}
use Rattle.cedar_gate_model.specs.ReadingName.{uid_read}
use Rattle.cedar_gate_model.specs.ReadingRequest.{parts_read, with_uid, with_uids, step_read, binding_read}
use Rattle.cedar_gate_model.specs.ReadingValue.{value_read, if_value, context_read, fields_context_read}
use Rattle.cedar_gate_expressions.specs.Json.{json_read}
use Rattle.cedar_gate_expressions.specs.Maps.{under_text, texts_seen}
use Rattle.cedar_gate_bundles.specs.Values.{IsStopped}
use Rattle.cedar_gate_bundles.specs.Written.{known_made, entity_read_made, entity_pair_made}

or_none : {A : Type 0} (o : Option A) → option_or o None ≡ o
or_none None = refl
or_none (Some a) = refl

pub context_of_object : (x : Functions) (ms : Members) → context_read x (object ms) ≡ fields_context_read x (object ms)
context_of_object x ms = or_none (fields_context_read x (object ms))

pub step_of_object : (x : Functions) (ms : Members) → step_read x (object ms) ≡ binding_read x (object ms)
step_of_object x ms = or_none (binding_read x (object ms))

-- an attribute or a tag
abbrev pub as_known : Text × Made → Text × Part V
as_known p = (p.0, known (bare p.1))

one_known : (k : Text) (o : Option Made) (rest : Option (List (Text × Made)))
    → given (option_map (λ m. (k, known (bare m))) o) (λ b. option_map (λ more. b ∷ more) (option_map (map as_known) rest)) ≡ option_map (map as_known) (given (option_map (λ m. (k, m)) o) (λ a. option_map (λ more. a ∷ more) rest))
one_known k None rest = refl
one_known k (Some m) None = refl
one_known k (Some m) (Some ms) = refl

each_known : (x : Functions) (ms : Members) → each_member (λ name e. option_map (λ m. (name, known (bare m))) (value_read x e)) ms ≡ option_map (map as_known) (each_member (under_text (value_read x)) ms)
each_known x no_members = refl
each_known x (member k d ms) = rw (each_known x ms) (one_known k (value_read x d) (each_member (under_text (value_read x)) ms))

of_object : (x : Functions) (o : Option Members) → given o (each_member (λ name e. option_map (λ m. (name, known (bare m))) (value_read x e))) ≡ option_map (map as_known) (given o (each_member (under_text (value_read x))))
of_object x None = refl
of_object x (Some ms) = each_known x ms

there : (x : Functions) (o : Option Data) → if_there (parts_read x) [] o ≡ option_map (map as_known) (if_there (members_of (under_text (value_read x))) [] o)
there x None = refl
there x (Some d) = of_object x (as_object d)

-- attributes or tags are read as values, each by its name
pub parts_are : (x : Functions) (key : Text) (d : Data) → optional key (parts_read x) [] d ≡ option_map (map as_known) (optional key (members_of (under_text (value_read x))) [] d)
parts_are x key d = there x (get key d)

-- the ancestors are recorded as the store records them
pub as_recorded : (us vs : List Uid) → all_recorded us vs ≡ with_uids us vs
as_recorded us [] = refl
as_recorded us (v ∷ vs) = as_recorded (with_uid us v) vs

-- what an input reads as is what its JSON does
pub of_input : (x : Functions) (bytes : List ℕ) → input_read x bytes ≡ given (json_read bytes) (bundle_read x)
unfolding input_read json_read
of_input x bytes = elim (is_utf8 bytes) as (λ b. when b (given (read bytes) (bundle_read x)) ≡ given (when b (read bytes)) (bundle_read x)) [ true ↦ refl | false ↦ refl ]

-- what stopped is no value and no context
pub stopped_value : (l : Left) → IsStopped l → if_value l ≡ None
stopped_value l h = ap if_value h.1

pub stopped_context : (l : Left) → IsStopped l → context_from l ≡ None
stopped_context l h = ap context_from h.1

-- ---- entities

value_names : (ps : List (RcStr Global × Value ExtValue)) → map (λ p. p.0) (map value_pair ps) ≡ map (λ p. p.0) (texts_seen (made extension_of) ps)
value_names [] = refl
value_names (p ∷ ps) = ap (λ ns. rc_str_bytes p.0 ∷ ns) (value_names ps)

known_values : (ps : List (RcStr Global × Value ExtValue)) → map value_pair ps ≡ map known_made (texts_seen (made extension_of) ps)
known_values [] = refl
known_values (p ∷ ps) = ap (λ qs. known_made (rc_str_bytes p.0, made extension_of p.1) ∷ qs) (known_values ps)

-- the attributes, or the tags, that are kept are those that are read
kept_parts : (ps : List (RcStr Global × Value ExtValue)) (kept : List (Text × Part Made)) → names_rise (texts_seen (made extension_of) ps) ≡ true → kept ≡ in_order (map value_pair ps)
    → kept ≡ map known_made (texts_seen (made extension_of) ps)
kept_parts ps kept r k = k ∙ in_order_stays (map value_pair ps) (ap (rises text_cmp) (value_names ps) ∙ r) ∙ known_values ps

-- an entity that is made of what is read
pub entity_made : (x : Functions) (d : Data) (e : Entity) (u : Uid) (ps ts : List (RcStr Global × Value ExtValue)) (us : List Uid)
    → has_only (codes "uid" ∷ codes "attrs" ∷ codes "tags" ∷ codes "ancestors" ∷ []) d ≡ true
    → required (codes "uid") uid_read d ≡ Some u
    → optional (codes "attrs") (members_of (under_text (value_read x))) [] d ≡ Some (texts_seen (made extension_of) ps)
    → optional (codes "tags") (members_of (under_text (value_read x))) [] d ≡ Some (texts_seen (made extension_of) ts)
    → optional (codes "ancestors") (list_of uid_read) [] d ≡ Some us
    → names_rise (texts_seen (made extension_of) ps) ≡ true → names_rise (texts_seen (made extension_of) ts) ≡ true
    → entity_uid e ≡ u → (entity_seen e).attributes ≡ in_order (map value_pair ps) → (entity_seen e).tags ≡ in_order (map value_pair ts)
    → (entity_seen e).ancestors ≡ all_recorded (all_recorded [] us) []
    → entity_read_made x d ≡ Some (entity_pair_made e)
entity_made x d e u ps ts us h hu ha ht hr ra rt eu ea et er =
    rw (h, hu, ha, ht, hr)
    (λ i. Some (
      sym eu i,
      record {
        attributes = sym (kept_parts ps (entity_seen e).attributes ra ea) i;
        tags = sym (kept_parts ts (entity_seen e).tags rt et) i;
        ancestors = sym (er ∙ as_recorded [] us) i;
      },
    ))

uids_kept : (es : List Entity) → map (λ (e : Uid × world.Entity V). e.0) (map entity_pair es) ≡ map entity_uid es
uids_kept [] = refl
uids_kept (e ∷ es) = ap (λ us. entity_uid e ∷ us) (uids_kept es)

-- a store is what is listed, where no uid is repeated
pub store_kept : (es : List (Uid × world.Entity V)) (s : Store) → store_of whole es ≡ Some s → if_passing are_distinct es ≡ Some s.entities
store_kept es s h =
    elim (are_distinct es) as (λ b. (if b then Some (all_of es) else None) ≡ Some s → when b (Some es) ≡ Some s.entities)
    [ true ↦ λ e. ap (λ (o : Option Store). option_map (λ t. t.entities) o) e | false ↦ λ e. absurd (cc) ] h

pub store_repeats : (es : List Entity) (u : Uid) → repeated uid_eq (map entity_uid es) ≡ Some u → if_passing are_distinct (map entity_pair es) ≡ None
store_repeats es u h =
    ap (λ o. when (is_none o) (Some (map entity_pair es))) (ap (repeated uid_eq) (uids_kept es) ∙ h)
