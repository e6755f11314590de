-- Stores as maps, and what is known by a part of one.
use Rattle.std.proofs.Common.{◌≡◌, List, [], ◌∷◌, map, Bool, true, false, cond, not, ◌&&◌, ◌++◌, refl, sym, ap, ◌∙◌, subst}
use Rattle.std.specs.Prelude.{Option, Some, None, Contains, IsSome}
use Rattle.std.specs.List.{list_all, list_any, filter, flat_map}
use Rattle.std.proofs.lemmas.List.Concat.{flat_map-cons}
use Rattle.std.specs.Map.{lookup}
use Rattle.std.specs.Str.{bytes_eq}
use Rattle.cedar_expr_model.specs.Name.{Text}
use Rattle.cedar_expr_model.specs.Uid.{Uid, uid_eq}
use Rattle.cedar_expr_model.specs.Value.{V}
use Rattle.cedar_expr_model.specs.Table.{Table}
use Rattle.cedar_expr_model.specs.Uids.{is_uid}
use Rattle.cedar_expr_model.proofs.Equality.{uid_eq-Decides}
use Rattle.cedar_expr_model.proofs.Lists.{both_hold, contains_head, contains_tail, contains_cases, contains_none, map_has, found-Decides}
use Rattle.cedar_expr_model.specs.ValueParts.{Part, known, left}
use Rattle.cedar_store_model.specs.World.{World, Request, Entity, Found, missing}
use Rattle.cedar_store_model.specs.Looks.{Looks}
use Rattle.cedar_store_model.specs.Knowledge.{holds_values, IsSettled, IsWhole}
use Rattle.cedar_store_model.specs.OfLaws.Extends.{Keeps, KeepsPart, KeepsEntity, KeepsFound, Extends}
use Rattle.cedar_store_model.specs.Policy.{Policy, condition}
use Rattle.cedar_store_model.specs.Answer.{with_slots, policy_outcome, is_true, permits, ids, decided, determining, error_of, answer_of, PolicyError}
use Rattle.cedar_store_model.specs.Store.{Entities, whole, partial, all_of, some_of, found_as, are_distinct, OpenRequest, as_open, world_of}
use Rattle.cedar_store_model.proofs.Distinct.{distinct-Decides}
use Rattle.cedar_store_model.proofs.Slices.{same}
use Rattle.cedar_store_model.proofs.Conditions.{condition_asked}
use Rattle.cedar_store_model.specs.Laws.{with_store}
use Rattle.cedar_store_model.specs.StoreLaws.{KeepsRequest, ArePartOf, NoneStands}
use Rattle.cedar_expr_model.specs.ListLaws.{AreDistinct}

-- look-ups
found_here : (u v : Uid) (d e : Entity V) (es : Entities) (b : Bool) → uid_eq u v ≡ b → (lookup (uid_eq u) es ≡ Some e → Contains es (u, e)) → cond b (Some d) (lookup (uid_eq u) es) ≡ Some e → Contains ((v, d) ∷ es) (u, e)
found_here u v d e es true q rest h =
    let s : u ≡ v = (uid_eq-Decides u v).0 q in
    let t : d ≡ e = cc in
    subst (λ (x : Uid × Entity V). Contains ((v, d) ∷ es) x) (λ i. (sym s i, t i)) (contains_head (v, d) es)
found_here u v d e es false q rest h = contains_tail (v, d) es (u, e) (rest h)

pub found_stands : (es : Entities) (u : Uid) (e : Entity V) → lookup (uid_eq u) es ≡ Some e → Contains es (u, e)
found_stands [] u e h = cc
found_stands (d ∷ es) u e h = found_here u d.0 d.1 e es (uid_eq u d.0) refl (found_stands es u e) h

stands_here : (u v : Uid) (d e : Entity V) (es : Entities) → ◌≡◌ {A = Uid × Entity V} (v, d) (u, e) → cond (uid_eq u v) (Some d) (lookup (uid_eq u) es) ≡ Some e
stands_here u v d e es q =
    let s : u ≡ v = sym (ap (λ (x : Uid × Entity V). x.0) q) in
    ap (λ b. cond b (Some d) (lookup (uid_eq u) es)) ((uid_eq-Decides u v).1 s) ∙ ap (λ (x : Uid × Entity V). Some x.1) q

abbrev uids : Entities → List Uid
uids es = map (λ e. e.0) es

stands_later : (u v : Uid) (d e : Entity V) (es : Entities) (b : Bool) → uid_eq u v ≡ b → ¬ (Contains (uids es) v) → Contains es (u, e) → lookup (uid_eq u) es ≡ Some e → cond b (Some d) (lookup (uid_eq u) es) ≡ Some e
stands_later u v d e es true q none m h = absurd (none (subst (Contains (uids es)) ((uid_eq-Decides u v).0 q) (map_has (λ (x : Uid × Entity V). x.0) es (u, e) m)))
stands_later u v d e es false q none m h = h

distinct_found : (es : Entities) → AreDistinct (uids es) → (u : Uid) (e : Entity V) → Contains es (u, e) → lookup (uid_eq u) es ≡ Some e
distinct_found [] h u e m = absurd (contains_none (u, e) m)
distinct_found (d ∷ es) h u e m =
    contains_cases (lookup (uid_eq u) (d ∷ es) ≡ Some e) d es (u, e) m
    (λ q. stands_here u d.0 d.1 e es q)
    (λ n. stands_later u d.0 d.1 e es (uid_eq u d.0) refl h.0 n (distinct_found es h.1 u e n))

pub stands_found : (es : Entities) → are_distinct es ≡ true → (u : Uid) (e : Entity V) → Contains es (u, e) → lookup (uid_eq u) es ≡ Some e
stands_found es h u e m = distinct_found es ((distinct-Decides uid_eq uid_eq-Decides (uids es)).0 h) u e m

pub lookup_is_exact : (es : Entities) → are_distinct es ≡ true → (u : Uid) (e : Entity V) → (lookup (uid_eq u) es ≡ Some e → Contains es (u, e)) × (Contains es (u, e) → lookup (uid_eq u) es ≡ Some e)
lookup_is_exact es h u e = (found_stands es u e, stands_found es h u e)

-- parts keep themselves
keeps_itself : (o : Option (Part V)) → KeepsPart o o
keeps_itself None = refl
keeps_itself (Some (known v)) = refl
keeps_itself (Some (left t)) = refl

entity_keeps : (e : Entity V) → KeepsEntity e e
entity_keeps e = record { attributes = λ a. keeps_itself (lookup (bytes_eq a) e.attributes); tags = λ a. keeps_itself (lookup (bytes_eq a) e.tags); ancestors = refl }

keeps_found : (a : Bool) (o p : Option (Entity V)) → ((e : Entity V) → o ≡ Some e → p ≡ Some e) → (a ≡ true → p ≡ None) → KeepsFound (found_as (cond a whole partial) o) (found_as whole p)
keeps_found true None p h k = ap (found_as whole) (k refl)
keeps_found false None p h k = tt
keeps_found a (Some e) p h k = (e, ap (found_as whole) (h e refl), entity_keeps e)

none_there : (o : Option (Entity V)) → ((e : Entity V) → o ≡ Some e → ⊥) → o ≡ None
none_there None h = refl
none_there (Some e) h = absurd (h e refl)

keeps_if_uid : (b : Bool) (f g : Found V) → KeepsFound f g → KeepsFound (cond b f missing) (cond b g missing)
keeps_if_uid true f g h = h
keeps_if_uid false f g h = refl

-- a uid of a recorded absence isn't found
pub lacked : (absent : List Uid) (all : Entities) → NoneStands absent all → (u : Uid) → list_any (uid_eq u) absent ≡ true → lookup (uid_eq u) all ≡ None
lacked absent all none u a = none_there (lookup (uid_eq u) all) (λ e h. none u e ((found-Decides uid_eq uid_eq-Decides u absent).0 a) (found_stands all u e h))

pub whole_extends_partial : (table : Table) (some_unknowns unknowns : Text → Option V) (q r : OpenRequest) (loaded all : Entities) (absent : List Uid)
    → ((n : Text) → Keeps (some_unknowns n) (unknowns n)) → KeepsRequest q r → ArePartOf loaded all → NoneStands absent all → are_distinct all ≡ true
    → Extends (world_of table some_unknowns q (some_of loaded absent)) (world_of table unknowns r (all_of all))
whole_extends_partial table m n q r loaded all absent hn hr part none distinct = record {
  principal = hr.principal;
  action = hr.action;
  resource = hr.resource;
  context = hr.context;
  slots = λ s. refl;
  unknowns = hn;
  table = refl;
  store = λ u.
      let among = lookup (uid_eq u) loaded in
      let there = lookup (uid_eq u) all in
      let is_absent = list_any (uid_eq u) absent in
      keeps_if_uid (is_uid u) (found_as (cond is_absent whole partial) among) (found_as whole there)
      (keeps_found is_absent among there
      (λ e h. stands_found all distinct u e (part (u, e) (found_stands loaded u e h)))
      (lacked absent all none u));
}

settled_here : (b : Bool) (d : Entity V) (o : Option (Entity V)) → holds_values d ≡ true → IsSettled (found_as whole o) → IsSettled (found_as whole (cond b (Some d) o))
settled_here true d o h k = h
settled_here false d o h k = k

pub settled : (es : Entities) → list_all (λ (e : Uid × Entity V). holds_values e.1) es ≡ true → (u : Uid) → IsSettled (found_as whole (lookup (uid_eq u) es))
settled [] h u = tt
settled (e ∷ es) h u = let k = both_hold (holds_values e.1) (list_all (λ (d : Uid × Entity V). holds_values d.1) es) h in settled_here (uid_eq u e.0) e.1 (lookup (uid_eq u) es) k.0 (settled es k.1 u)

pub settled_if_uid : (b : Bool) (f : Found V) → IsSettled f → IsSettled (cond b f missing)
settled_if_uid true f h = h
settled_if_uid false f h = tt

pub whole_stores_are_whole : (table : Table) (unknowns : Text → Option V) (r : Request) (es : Entities)
    → ((n : Text) → IsSome (unknowns n)) → list_all (λ (e : Uid × Entity V). holds_values e.1) es ≡ true
    → IsWhole (world_of table unknowns (as_open r) (all_of es))
whole_stores_are_whole table unknowns r es hn hs = record { principal = refl; action = refl; resource = refl; context = refl; unknowns = hn; store = λ u. settled_if_uid (is_uid u) (found_as whole (lookup (uid_eq u) es)) (settled es hs u) }

-- answers by the outcomes of the policies
filter_same : (f g : Policy → Bool) (ps : List Policy) → ((p : Policy) → Contains ps p → f p ≡ g p) → filter f ps ≡ filter g ps
filter_same f g [] h = refl
filter_same f g (p ∷ ps) h =
    let here = h p (contains_head p ps) in
    let rest = filter_same f g ps (λ q m. h q (contains_tail p ps q m)) in
    λ i. cond (here i) (p ∷ rest i) (rest i)

flat_same : (f g : Policy → List PolicyError) (ps : List Policy) → ((p : Policy) → Contains ps p → f p ≡ g p) → flat_map f ps ≡ flat_map g ps
flat_same f g [] h = refl
flat_same f g (p ∷ ps) h =
    flat_map-cons f p ps
    ∙ (λ i. h p (contains_head p ps) i ++ flat_same f g ps (λ q m. h q (contains_tail p ps q m)) i)
    ∙ sym (flat_map-cons g p ps)

pub same_answers : (v w : World) (ps : List Policy) → ((p : Policy) → Contains ps p → policy_outcome v p ≡ policy_outcome w p) → answer_of v ps ≡ answer_of w ps
same_answers v w ps same_outcome =
    let allowing = filter_same (λ (p : Policy). permits p.effect && is_true (policy_outcome v p)) (λ (p : Policy). permits p.effect && is_true (policy_outcome w p)) ps (λ p m. ap (λ o. permits p.effect && is_true o) (same_outcome p m)) in
    let denying = filter_same (λ (p : Policy). not (permits p.effect) && is_true (policy_outcome v p)) (λ (p : Policy). not (permits p.effect) && is_true (policy_outcome w p)) ps (λ p m. ap (λ o. not (permits p.effect) && is_true o) (same_outcome p m)) in
    let failing = flat_same (λ (p : Policy). error_of p.id (policy_outcome v p)) (λ (p : Policy). error_of p.id (policy_outcome w p)) ps (λ p m. ap (error_of p.id) (same_outcome p m)) in
    λ i. record { decision = decided (allowing i) (denying i); reasons = ids (determining (allowing i) (denying i)); errors = failing i }

pub only_lookups_answer : (w : World) (store : Uid → Found V) (ps : List Policy)
    → ((p : Policy) → Contains ps p → (u : Uid) → Looks (with_slots w p.bindings) (condition p) u → store u ≡ w.store u)
    → answer_of (with_store w store) ps ≡ answer_of w ps
only_lookups_answer w store ps h =
    same_answers (with_store w store) w ps
    (λ p m. condition_asked (with_store w store) p ∙ same (with_slots w p.bindings) store (condition p) (h p m) ∙ sym (condition_asked w p))
