-- What a look-up tells of the place of a uid, and of descent.
use Rattle.std.proofs.Common.{◌≡◌, ◌∙◌, Bool, true, false, not, ◌&&◌, ◌||◌, cond, List, [], ◌∷◌, Option, Some, None, option_map, is_some, refl, sym, ap}
use Rattle.std.specs.Prelude.{is_none, option_and_then}
use Rattle.std.specs.List.{list_any}
use Rattle.std.specs.Map.{lookup}
use Rattle.std.specs.Option.{option_map_or}
use Rattle.std.specs.Str.{bytes_eq}
use Rattle.cedar_expr_model.specs.Name.{Text, Name}
use Rattle.cedar_expr_model.specs.Uid.{Uid, uid_eq}
use Rattle.cedar_expr_model.specs.Made.{Made}
use Rattle.cedar_expr_model.specs.ValueParts.{Part}
use Rattle.cedar_evaluator_model.specs.Known.{known_entry}
use Rattle.cedar_evaluator_model.specs.Scope.{Entry, uid, unknown_uid}
use Rattle.cedar_evaluator_requests.specs.Views.{entry_uid}
use Rattle.cedar_gate_model.specs.Asked.{kept_place, may_be_below}
use Rattle.cedar_schema_model.specs.Kept.{KeptType, KeptAction, Kept, kept_type, kept_action}
use Rattle.cedar_schema_model.specs.Conforming.{Place, among_actions, of_kind, nowhere, where_known}
use Rattle.cedar_schema_model.specs.Schema.{EntityKind, standard, enumerated, external}
use Rattle.cedar_store_entities.specs.Views.{bare_part}
use Rattle.cedar_typechecker_model.specs.Asked.{type_is_below, action_is_below}
use Rattle.cedar_gate_conforming.specs.Views.{bare_parts, is_enumerated}

-- the place by what is found
abbrev kind_place : Option KeptType → Place
kind_place o = option_map_or (λ t. of_kind t.kind) o nowhere

pub place_action : (k : Kept) (u : Uid) (a : KeptAction) → Some a ≡ kept_action k u → kept_place k u ≡ among_actions
place_action k u a h = ap (λ o. cond (is_some o) among_actions (kind_place (kept_type k u.kind))) (sym h)

pub place_typed : (k : Kept) (u : Uid) → None ≡ kept_action k u → kept_place k u ≡ option_map_or (λ t. of_kind t.kind) (kept_type k u.kind) nowhere
place_typed k u h = ap (λ o. cond (is_some o) among_actions (kind_place (kept_type k u.kind))) (sym h)

pub place_found : (k : Kept) (n : Name) (t : KeptType) → Some t ≡ kept_type k n → option_map_or (λ t. of_kind t.kind) (kept_type k n) nowhere ≡ of_kind t.kind
place_found k n t h = ap kind_place (sym h)

pub place_none : (k : Kept) (n : Name) → None ≡ kept_type k n → option_map_or (λ t. of_kind t.kind) (kept_type k n) nowhere ≡ nowhere
place_none k n h = ap kind_place (sym h)

-- descent
pub action_found : (k : Kept) (u v : Uid) (a : KeptAction) → Some a ≡ kept_action k v → list_any (uid_eq u) a.descendants ≡ action_is_below k u v
action_found k u v a h = ap (λ o. option_map_or (λ (a : KeptAction). list_any (uid_eq u) a.descendants) o false) h

pub action_none : (k : Kept) (u v : Uid) → None ≡ kept_action k v → false ≡ action_is_below k u v
action_none k u v h = ap (λ o. option_map_or (λ (a : KeptAction). list_any (uid_eq u) a.descendants) o false) h

pub may_be : (k : Kept) (u v : Uid) (j : EntityKind) → (not (is_enumerated j) && type_is_below k u.kind v.kind) ≡ may_be_below k u (of_kind j) v
may_be k u v (standard as_ t) = refl
may_be k u v (enumerated ids) = refl
may_be k u v external = refl

pub or_false : (b : Bool) → b ≡ (b || false)
or_false true = refl
or_false false = refl

-- an attribute by its name
pub some_seen : {A B : Type 0} (f : A → B) (o : Option A) → is_some (option_map f o) ≡ is_some o
some_seen f None = refl
some_seen f (Some a) = refl

same_some : (t : Text) (ps : List (Text × Part Made)) → is_some (lookup (bytes_eq t) ps) ≡ not (is_none (lookup (bytes_eq t) (bare_parts ps)))
same_some t [] = refl
same_some t (p ∷ ps) = go (bytes_eq t p.0) (same_some t ps)
  where
    go : (b : Bool) → is_some (lookup (bytes_eq t) ps) ≡ not (is_none (lookup (bytes_eq t) (bare_parts ps)))
        → is_some (cond b (Some p.1) (lookup (bytes_eq t) ps)) ≡ not (is_none (cond b (Some (bare_part p.1)) (lookup (bytes_eq t) (bare_parts ps))))
    go true h = refl
    go false h = h

pub has_part : {A : Type 0} (seen : A → Part Made) (t : Text) (o : Option A) (ps : List (Text × Part Made)) → option_map seen o ≡ lookup (bytes_eq t) ps → is_some o ≡ not (is_none (lookup (bytes_eq t) (bare_parts ps)))
has_part seen t o ps h = sym (some_seen seen o) ∙ ap is_some h ∙ same_some t ps

-- entries of requests
pub known_is : (e : Entry) → entry_uid e ≡ known_entry e
known_is (uid u) = refl
known_is (unknown_uid k) = refl

pub asked : (k : Kept) (o : Option Uid) (test : KeptAction → Bool) → where_known (option_and_then (kept_action k) o) test ≡ where_known o (λ u. where_known (kept_action k u) test)
asked k None test = refl
asked k (Some u) test = refl
