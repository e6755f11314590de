-- What the evaluators of a session know.
use Rattle.std.proofs.Common.{◌≡◌, ◌∙◌, ◌||◌, ℕ, Bool, true, false, cond, List, [], ◌∷◌, map, Option, Some, None, option_map, refl, sym, ap, subst, if◌then◌else◌}
use Rattle.std.specs.List.{list_any}
use Rattle.std.specs.Map.{lookup}
use Rattle.cedar_expr_model.specs.Name.{Text}
use Rattle.cedar_expr_model.specs.Uid.{Uid, uid_eq}
use Rattle.cedar_expr_model.specs.Made.{Made}
use Rattle.cedar_expr_model.specs.Table.{Table}
use Rattle.cedar_expr_model.specs.Uids.{is_uid}
use Rattle.cedar_expr_model.specs.Value.{V}
use Rattle.cedar_expr_model.specs.ValueParts.{Part, known, left}
use Rattle.cedar_expr_model.proofs.Equality.{uid_eq-Decides}
use Rattle.cedar_expr_names.specs.Views.{uid_of}
use Rattle.cedar_expr_names.specs.declared.entity.EntityUID.{EntityUID}
use Rattle.cedar_store_entities.specs.Refusals.{is_absent, is_present}
use Rattle.cedar_store_entities.specs.Stores.{store_seen, store_made}
use Rattle.cedar_store_entities.specs.Views.{Kept, entity_uid, entity_kept, entity_pair, kept_pair, bare_part, bare_entity}
use Rattle.cedar_store_entities.specs.declared.entities.Entities.{Entities}
use Rattle.cedar_store_entities.specs.declared.entity.Entity.{Entity}
use Rattle.cedar_store_model.specs.Store.{Extent, all_of, some_of, extent_for, if_uid, whole, partial}
use Rattle.cedar_store_model.specs.World as world
use Rattle.cedar_store_model.specs.World.{Found, held}
use Rattle.cedar_schema_model.specs.Schema as model
use Rattle.cedar_evaluator_model.specs.Known.{known_found, known_entity, known_parts, known_part}
use Rattle.cedar_evaluator_model.specs.OfLaws.WellMade.{IsFoundMadeWell}
use Rattle.cedar_evaluator_reads.specs.Scopes.{found_kept, store_of}
use Rattle.cedar_evaluator_model.proofs.Represented.{context_well}
use Rattle.cedar_evaluator_model.specs.OfLaws.WellMade.{IsContextCanonical}
use Rattle.cedar_evaluator_model.specs.Response.{PartialRequest}
use Rattle.cedar_evaluator_reads.proofs.Canonical.{request_canonical}
use Rattle.cedar_gate_sessions.specs.Laws.{loaded_store}
use Rattle.cedar_gate_model.specs.RunsAnswer.{Course, session_of, IsKnownStore}
use Rattle.cedar_gate_model.specs.Session.{Setup, State, known_now}
use Rattle.cedar_gate_sessions.specs.Entities.{RecordsAbsences}
use Rattle.cedar_gate_sessions.specs.Loaded.{loaded_at}
use Rattle.cedar_gate_sessions.specs.Sessions.{IsAt, AreLoaded, extent_at, loaded_in, stored_in, store_in, was_asked}
use Rattle.cedar_gate_sessions.specs.declared.session.SessionAt.{SessionAt}
use Rattle.cedar_gate_sessions.proofs.Lookups.{lookup_seen}
use Rattle.cedar_gate_sessions.proofs.Steady.{IsAlike}
use Rattle.cedar_gate_sessions.proofs.Stores.{found_made, action_made, steady, store_alike, known_partly, known_wholly}

-- the entity of the code is the one that is known
part_same : (p : Part Made) → bare_part p ≡ known_part p
part_same (known m) = refl
part_same (left t) = refl

parts_same : (ps : List (Text × Part Made)) → map (λ p. (p.0, bare_part p.1)) ps ≡ known_parts ps
parts_same [] = refl
parts_same (p ∷ ps) = ap (λ z. (p.0, z) ∷ map (λ (q : Text × Part Made). (q.0, bare_part q.1)) ps) (part_same p.1) ∙ ap (λ l. (p.0, known_part p.1) ∷ l) (parts_same ps)

entity_same : (e : world.Entity Made) → bare_entity e ≡ known_entity e
entity_same e = λ i. record { attributes = parts_same e.attributes i; tags = parts_same e.tags i; ancestors = e.ancestors }

abbrev seen : Kept → world.Entity Made
seen k = k.0

abbrev bare_kept : Kept → world.Entity V
bare_kept k = bare_entity k.0

-- what is found among what is kept
kept_found : (es : List Entity) (u : Uid) → lookup (uid_eq u) (map entity_pair es) ≡ option_map bare_kept (lookup (uid_eq u) (map kept_pair es))
kept_found es u = lookup_seen (uid_eq u) entity_uid entity_kept bare_kept es

known_is : (o : Option Kept) → option_map bare_kept o ≡ option_map known_entity (option_map seen o)
known_is None = refl
known_is (Some k) = ap Some (entity_same k.0)

made_is : (t : Extent) (o : Option Kept) → found_kept t o ≡ found_made t (option_map seen o)
made_is whole None = refl
made_is partial None = refl
made_is t (Some k) = refl

-- the uids of the code are uids
abbrev pub AreUids : Type 0
AreUids = (u : EntityUID) → is_uid (uid_of u) ≡ true

uid_of_found : AreUids → (es : List Entity) (u : Uid) (k : Kept) → lookup (uid_eq u) (map kept_pair es) ≡ Some k → is_uid u ≡ true
uid_of_found uids [] u k h = absurd (cc)
uid_of_found uids (e ∷ es) u k h = go (uid_eq u (entity_uid e)) refl h (uid_of_found uids es u k)
  where
    go : (b : Bool) → uid_eq u (entity_uid e) ≡ b → cond b (Some (entity_kept e)) (lookup (uid_eq u) (map kept_pair es)) ≡ Some k → (lookup (uid_eq u) (map kept_pair es) ≡ Some k → is_uid u ≡ true) → is_uid u ≡ true
    go true q f later = subst (λ v. is_uid v ≡ true) (sym ((uid_eq-Decides u (entity_uid e)).0 q)) (uids e.uid)
    go false q f later = later f

-- what isn't found isn't there
none_present : (es : List Entity) (u : Uid) → lookup (uid_eq u) (map kept_pair es) ≡ None → is_present (all_of (map entity_pair es)) u ≡ false
none_present [] u h = refl
none_present (e ∷ es) u h = go (uid_eq u (entity_uid e)) h (none_present es u)
  where
    go : (b : Bool) → cond b (Some (entity_kept e)) (lookup (uid_eq u) (map kept_pair es)) ≡ None → (lookup (uid_eq u) (map kept_pair es) ≡ None → is_present (all_of (map entity_pair es)) u ≡ false) → (b || is_present (all_of (map entity_pair es)) u) ≡ false
    go true f later = absurd (cc)
    go false f later = later f

-- of a whole store all is known
all_is_known : (b : Bool) (t : Extent) → t ≡ whole → (if b then whole else t) ≡ whole
all_is_known true t e = refl
all_is_known false t e = e

-- the store of the code is that of these entities
module _ (z : Entities) (es : List Entity) (made : store_made z ≡ map kept_pair es) (u : Uid) where
  -- as all that there are
  pub whole_is_made : (store_seen z).extent ≡ whole → store_of z u ≡ stored_in (λ v. true) es u
  whole_is_made extent = (λ i. if_uid u (found_kept (extent_for (store_seen z) u) (lookup (uid_eq u) (made i)))) ∙ ap (λ t. if_uid u (found_kept t (lookup (uid_eq u) (map kept_pair es)))) (all_is_known (is_absent (store_seen z) u) (store_seen z).extent extent)

  -- and where the others that were asked for are recorded as absent
  pub part_is_made : (asked : Uid → Bool) → RecordsAbsences asked (some_of (map entity_pair es) []) (store_seen z) → store_of z u ≡ stored_in asked es u
  part_is_made asked recorded = (λ i. if_uid u (found_kept (extent_for (store_seen z) u) (lookup (uid_eq u) (made i)))) ∙ ap (if_uid u) (go (lookup (uid_eq u) (map kept_pair es)) refl)
    where
      go : (o : Option Kept) → lookup (uid_eq u) (map kept_pair es) ≡ o → found_kept (extent_for (store_seen z) u) o ≡ found_kept (extent_at (asked u)) o
      go (Some k) e = refl
      go None e = λ i. found_kept (if recorded.absent u (none_present es u e) i then whole else recorded.extent i) None

action_written : (t : Table) (s : model.Schema) (u : Uid) (d : Bool) (f : Found Made) → IsFoundMadeWell t f → IsFoundMadeWell t (if d then held (action_made s u) else f)
action_written t s u true f h = λ a. (tt, tt)
action_written t s u false f h = h

module _ (x : Setup) (s : State) (es : List Entity) (loaded : AreLoaded x s es) (u : Uid) where
  abbrev found : Option Kept
  found = lookup (uid_eq u) (map kept_pair es)

  found_is : option_map known_entity (option_map seen found) ≡ loaded_at loaded.acts x s u
  found_is = sym (known_is found) ∙ sym (kept_found es u) ∙ loaded.each u

  action_is_uid : AreUids → model.declares_action x.schema u ≡ true → is_uid u ≡ true
  action_is_uid uids d = go found refl (found_is ∙ ap (λ b. if b then Some (loaded.acts u) else (if list_any (uid_eq u) s.asked then x.store u else None)) d)
    where
      go : (o : Option Kept) → lookup (uid_eq u) (map kept_pair es) ≡ o → option_map known_entity (option_map seen o) ≡ Some (loaded.acts u) → is_uid u ≡ true
      go None e f = absurd (cc)
      go (Some k) e f = uid_of_found uids es u k e

  abbrev steadied : Found Made → Found Made
  steadied f = if model.declares_action x.schema u then held (action_made x.schema u) else f

  -- the steady store is alike
  pub made_alike : AreUids → (asked : Uid → Bool) → IsAlike (stored_in asked es u) (steady x.schema (stored_in asked es) u)
  made_alike uids asked =
      subst (λ f. IsAlike (if_uid u f) (steadied (if_uid u f))) (sym (made_is (extent_at (asked u)) found)) (store_alike x s loaded.acts loaded.same u (option_map seen found) found_is (extent_at (asked u)) (action_is_uid uids))

  -- it is what is known, where what was asked for is what the state asked for
  module _ (asked : Uid → Bool) (is : asked u ≡ list_any (uid_eq u) s.asked) where
    pub steady_known : known_found (steady x.schema (stored_in asked es) u) ≡ (known_now x s).store u
    steady_known =
        ap (λ a. known_found (steadied (if_uid u (found_kept (extent_at a) found)))) is
        ∙ ap (λ f. known_found (steadied (if_uid u f))) (made_is (extent_at (list_any (uid_eq u) s.asked)) found)
        ∙ known_partly x s loaded.acts loaded.same u (option_map seen found) found_is

    pub steady_written : IsFoundMadeWell x.functions.table (steady x.schema (stored_in asked es) u)
    steady_written =
        action_written x.functions.table x.schema u (model.declares_action x.schema u) (stored_in asked es u)
        (subst (λ a. IsFoundMadeWell x.functions.table (if_uid u (found_kept (extent_at a) found))) (sym is) (loaded.written u))

  -- and as a whole store it is what was loaded
  pub steady_whole : known_found (steady x.schema (stored_in (λ v. true) es) u) ≡ loaded_store x s u
  steady_whole = ap (λ f. known_found (steadied (if_uid u f))) (made_is whole found) ∙ known_wholly x s loaded.acts loaded.same u (option_map seen found) found_is

-- the steady store is what is known of the store
pub known_store : {G : Type 0} (suits : G → Setup → Type 0) (c : Course) (s : State) (d : SessionAt G) → IsAt suits (session_of c) s d → IsKnownStore c s (steady (session_of c).schema (store_in d))
known_store suits c s d at = record {
  known = λ u. steady_known (session_of c) s (loaded_in d) at.loaded u (was_asked d) ((at.near).asked u);
  well = λ u. steady_written (session_of c) s (loaded_in d) at.loaded u (was_asked d) ((at.near).asked u);
  context = context_well (session_of c).functions.table (session_of c).start.context (subst (λ (q : PartialRequest). IsContextCanonical q.context) (at.setup).start (request_canonical d.start)) (at.setup).represented;
}
