-- What is put under its own name among entity types, or under its own uid among actions, and what is found there.
use Rattle.std.proofs.Common.{◌≡◌, ◌++◌, [], ◌∷◌, List, Option, map, option_map, sym, ap, ◌∙◌}
use Rattle.std.proofs.lemmas.Map.Text.{is_eq-slice_cmp}
use Rattle.std.specs.Borrow.{Bor}
use Rattle.std.specs.BTreeMap.{is_at, insert_entry}
use Rattle.std.specs.List.{find}
use Rattle.std.specs.Map.{lookup}
use Rattle.std.specs.Option.{option_copied}
use Rattle.std.specs.Ordering.{is_eq}
use Rattle.cedar_expr_model.specs.Name.{name_eq}
use Rattle.cedar_expr_model.specs.Uid.{uid_eq}
use Rattle.cedar_expr_model.specs.UidOrder.{name_cmp, uid_cmp}
use Rattle.cedar_expr_model.proofs.Equality.{name_eq-Decides, uid_eq-Decides}
use Rattle.cedar_expr_names.specs.Views.{name_bytes, type_name_of, uid_of}
use Rattle.cedar_expr_names.specs.declared.entity.EntityType.{EntityType}
use Rattle.cedar_expr_names.specs.declared.entity.EntityUID.{EntityUID}
use Rattle.cedar_expr_names.proofs.Equality.{names_eq_is, names_cmp_is, uids_cmp_is}
use Rattle.cedar_schema_types.proofs.Unions.{types_by}
use Rattle.cedar_schema_model.specs.Kept.{KeptType, KeptAction}
use Rattle.cedar_schema_entries.specs.Views.{entity_type_seen, action_seen}
use Rattle.cedar_schema_entries.specs.declared.entity_type.ValidatorEntityType.{ValidatorEntityType}
use Rattle.cedar_schema_entries.specs.declared.action.ValidatorActionId.{ValidatorActionId}
use Rattle.cedar_schema_entries.proofs.Among.{uids_by, same_uid}
use Rattle.cedar_schema_built.specs.Put.{put, all_put}
use Rattle.cedar_schema_built.specs.Entries.{types_in, type_keys, type_names, actions_in, action_keys, action_names}
use Rattle.cedar_schema_built.proofs.Putting.{all_put_more, map_more, put_in, named_put, got_in}

types_same : (s t : EntityType) → types_by s t ≡ name_cmp (type_name_of s) (type_name_of t)
types_same s t = names_cmp_is s.0.internal t.0.internal

-- the order of entity types tells those of one name
pub types_told : (s t : EntityType) → is_eq (types_by s t) ≡ name_eq (type_name_of s) (type_name_of t)
types_told s t = is_eq-slice_cmp (name_bytes s.0.internal) (name_bytes t.0.internal) ∙ names_eq_is s.0.internal t.0.internal

abbrev pub all_types : List ValidatorEntityType → List KeptType
all_types ts = all_put name_cmp (λ t. t.name) [] (map entity_type_seen ts)

abbrev pub all_actions : List ValidatorActionId → List KeptAction
all_actions as_ = all_put uid_cmp (λ a. a.uid) [] (map action_seen as_)

-- one more of them, under its name
pub type_more : (es news : List (EntityType × ValidatorEntityType)) (k : EntityType) (t : ValidatorEntityType) (done : List ValidatorEntityType) → type_name_of k ≡ (entity_type_seen t).name → type_keys es ≡ type_names es
    → types_in es ≡ all_types done → news ≡ insert_entry types_by es k t → types_in news ≡ all_types (done ++ t ∷ [])
type_more es news k t done h n d e =
    ap types_in e
    ∙ put_in type_name_of entity_type_seen (λ t. t.name) types_by name_cmp types_same es k t h n
    ∙ ap (put name_cmp (λ t. t.name) (entity_type_seen t)) d
    ∙ sym (all_put_more name_cmp (λ t. t.name) [] (map entity_type_seen done) (entity_type_seen t))
    ∙ ap (all_put name_cmp (λ t. t.name) []) (sym (map_more entity_type_seen done t))

pub type_named : (es news : List (EntityType × ValidatorEntityType)) (k : EntityType) (t : ValidatorEntityType) → type_name_of k ≡ (entity_type_seen t).name → type_keys es ≡ type_names es → news ≡ insert_entry types_by es k t → type_keys news ≡ type_names news
type_named es news k t h n e =
    ap type_keys e
    ∙ named_put type_name_of entity_type_seen (λ t. t.name) types_by name_eq types_told (λ m n. (name_eq-Decides m n).0) es k t h n
    ∙ ap type_names (sym e)

pub type_got : (q : EntityType) (es : List (EntityType × ValidatorEntityType)) (r : Option (Bor ValidatorEntityType)) → type_keys es ≡ type_names es → option_copied r ≡ lookup (is_at (types_by q)) es
    → option_map (λ t. entity_type_seen t.now) r ≡ find (λ t. name_eq (type_name_of q) t.name) (types_in es)
type_got = got_in type_name_of entity_type_seen (λ t. t.name) types_by name_eq types_told

pub action_more : (es news : List (EntityUID × ValidatorActionId)) (k : EntityUID) (a : ValidatorActionId) (done : List ValidatorActionId) → uid_of k ≡ (action_seen a).uid → action_keys es ≡ action_names es
    → actions_in es ≡ all_actions done → news ≡ insert_entry uids_by es k a → actions_in news ≡ all_actions (done ++ a ∷ [])
action_more es news k a done h n d e =
    ap actions_in e
    ∙ put_in uid_of action_seen (λ a. a.uid) uids_by uid_cmp uids_cmp_is es k a h n
    ∙ ap (put uid_cmp (λ a. a.uid) (action_seen a)) d
    ∙ sym (all_put_more uid_cmp (λ a. a.uid) [] (map action_seen done) (action_seen a))
    ∙ ap (all_put uid_cmp (λ a. a.uid) []) (sym (map_more action_seen done a))

pub action_named : (es news : List (EntityUID × ValidatorActionId)) (k : EntityUID) (a : ValidatorActionId) → uid_of k ≡ (action_seen a).uid → action_keys es ≡ action_names es → news ≡ insert_entry uids_by es k a → action_keys news ≡ action_names news
action_named es news k a h n e =
    ap action_keys e
    ∙ named_put uid_of action_seen (λ a. a.uid) uids_by uid_eq same_uid (λ u v. (uid_eq-Decides u v).0) es k a h n
    ∙ ap action_names (sym e)

pub action_got : (q : EntityUID) (es : List (EntityUID × ValidatorActionId)) (r : Option (Bor ValidatorActionId)) → action_keys es ≡ action_names es → option_copied r ≡ lookup (is_at (uids_by q)) es
    → option_map (λ a. action_seen a.now) r ≡ find (λ a. uid_eq (uid_of q) a.uid) (actions_in es)
action_got = got_in uid_of action_seen (λ a. a.uid) uids_by uid_eq same_uid
