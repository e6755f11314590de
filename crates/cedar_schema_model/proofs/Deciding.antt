-- The search for a fault decides whether a schema is what it has to be.
use Rattle.std.proofs.Common.{◌≡◌, List, [], ◌∷◌, map, Bool, true, false, not, cond, Option, Some, None, refl, sym, subst}
use Rattle.std.specs.Prelude.{Contains, is_some, is_none, find}
use Rattle.std.specs.Bool.{Decides}
use Rattle.std.specs.List.{list_any}
use Rattle.std.specs.Option.{option_or, option_map_or}
use Rattle.std.specs.Str.{bytes_eq}
use Rattle.std.proofs.lemmas.Bool.Decides.{Decides-and, Decides-not, Decides-like}
use Rattle.std.proofs.lemmas.Slice.Eq.{bytes_eq-Decides}
use Rattle.cedar_expr_model.specs.Name.{Name, name_eq, is_reserved}
use Rattle.cedar_expr_model.specs.Uid.{Uid, uid_eq}
use Rattle.cedar_expr_model.specs.Lists.{first_found}
use Rattle.cedar_expr_model.proofs.Equality.{name_eq-Decides, uid_eq-Decides}
use Rattle.cedar_expr_model.proofs.Lists.{contains_head, contains_tail, contains_cases, contains_none, found-Decides, all-Decides}
use Rattle.cedar_schema_model.specs.Types.{Ty, never, bool_type, long_type, string_type, any_entity, entity_types, any_set, set_type, record_type, extension_type, is_open, is_closed, Attributes, no_attributes, attribute}
use Rattle.cedar_schema_model.specs.Schema.{EntityKind, standard, enumerated, external}
use Rattle.cedar_schema_model.specs.Reference.{action_word}
use Rattle.cedar_schema_model.proofs.Decls.Conforming.{not_false}
use Rattle.cedar_schema_model.specs.Kept.{KeptType, KeptAction, Kept, kept_type, kept_action}
use Rattle.cedar_schema_model.specs.Sound.{names_kept, uids_kept, IsKnownType, AreKnownAttributes, IsKnownTag, IsKnownKind, IsClosedRecord, IsSound}
use Rattle.cedar_schema_model.specs.Unsound.{Unsound, unless, undeclared_type, undeclared_action, unknown_extension, type_as_action, type_left_out, action_left_out, action_below_itself, action_of_other_type, type_fault, known_fault, attributes_fault, tag_fault, kind_fault, type_among, type_below_fault, entity_type_fault, context_fault, action_among, action_below_fault, descendants_fault, applied_fault, action_fault, first_fault, names_are_free, is_sound}

-- Nothing is found where the test passes, where nothing is found at first and after it, and where nothing is found of each.
unless-Decides : (b : Bool) (f : Unsound) (P : Type 0) → Decides b P → Decides (is_none (unless b f)) P
unless-Decides true f P d = (λ h. d.0 refl, λ p. refl)
unless-Decides false f P d = (λ h. cc, λ p. d.1 p)

or-Decides : {A : Type 0} (o q : Option A) (P Q : Type 0) → Decides (is_none o) P → Decides (is_none q) Q → Decides (is_none (option_or o q)) (P × Q)
or-Decides None q P Q d e = (λ h. (d.0 refl, e.0 h), λ p. e.1 p.1)
or-Decides (Some x) q P Q d e = (λ h. cc, λ p. d.1 p.0)

first-Decides : {A B : Type 0} (f : A → Option B) (P : A → Type 0) → ((x : A) → Decides (is_none (f x)) (P x)) → (xs : List A) → Decides (is_none (first_found f xs)) ((x : A) → Contains xs x → P x)
first-Decides f P each [] = (λ h x c. absurd (contains_none x c), λ h. refl)
first-Decides f P each (y ∷ ys) =
    Decides-like _
    (λ h x c. contains_cases (P x) y ys x c (λ e. subst P e h.0) (λ k. h.1 x k))
    (λ h. (h y (contains_head y ys), λ x c. h x (contains_tail y ys x c)))
    (or-Decides (f y) (first_found f ys) (P y) ((x : _) → Contains ys x → P x) (each y) (first-Decides f P each ys))

trivial-Decides : Decides true (Unit {0})
trivial-Decides = (λ h. tt, λ h. refl)

module _ {S A : Type 0} (eq : S → S → Bool) (decides : (s t : S) → Decides (eq s t) (s ≡ t)) (name : A → S) where
  found_step : (s : S) (a : A) (as_ : List A) (t : Bool) → eq s (name a) ≡ t → Decides (is_some (find (λ b. eq s (name b)) as_)) (Contains (map name as_) s) → Decides (is_some (cond t (Some a) (find (λ b. eq s (name b)) as_))) (Contains (map name (a ∷ as_)) s)
  found_step s a as_ true e rest = (λ h. subst (Contains (map name (a ∷ as_))) (sym ((decides s (name a)).0 e)) (contains_head (name a) (map name as_)), λ c. refl)
  found_step s a as_ false e rest = (
    λ h. contains_tail (name a) (map name as_) s (rest.0 h),
    λ c. contains_cases (is_some (find (λ b. eq s (name b)) as_) ≡ true) (name a) (map name as_) s c (λ q. let k = (decides s (name a)).1 (sym q) in cc) rest.1,
  )

  -- a name is found exactly where something has it
  name_found : (s : S) (as_ : List A) → Decides (is_some (find (λ b. eq s (name b)) as_)) (Contains (map name as_) s)
  name_found s [] = (λ h. cc, λ c. absurd (contains_none s c))
  name_found s (a ∷ as_) = found_step s a as_ (eq s (name a)) refl (name_found s as_)

module _ (k : Kept) where
  type_found : (n : Name) → Decides (is_some (kept_type k n)) (Contains (names_kept k) n)
  type_found n = name_found name_eq name_eq-Decides (λ (t : KeptType). t.name) n k.types

  action_found : (u : Uid) → Decides (is_some (kept_action k u)) (Contains (uids_kept k) u)
  action_found u = name_found uid_eq uid_eq-Decides (λ (a : KeptAction). a.uid) u k.actions

  types-Decides : (ns : List Name) → Decides (is_none (first_found (type_fault k) ns)) ((n : Name) → Contains ns n → Contains (names_kept k) n)
  types-Decides ns = first-Decides (type_fault k) (Contains (names_kept k)) (λ n. unless-Decides (is_some (kept_type k n)) (undeclared_type n) (Contains (names_kept k) n) (type_found n)) ns

  -- descendants of entity types
  abbrev AllAmong : List Name → List Name → Type 0
  AllAmong ms ns = (m : Name) → Contains ms m → Contains ns m

  among-Decides : (t : KeptType) (ms : List Name) → Decides (is_none (first_found (type_among t) ms)) (AllAmong ms t.descendants)
  among-Decides t ms = first-Decides (type_among t) (Contains t.descendants) (λ m. unless-Decides (list_any (name_eq m) t.descendants) (type_left_out t.name m) (Contains t.descendants m) (found-Decides name_eq name_eq-Decides m t.descendants)) ms

  abbrev IsClosedAt : KeptType → Option KeptType → Type 0
  IsClosedAt t o = (u : KeptType) → o ≡ Some u → AllAmong u.descendants t.descendants

  below_case : (t : KeptType) (f : Unsound) (D : Type 0) (o : Option KeptType) → Decides (is_some o) D → Decides (is_none (option_map_or (λ u. first_found (type_among t) u.descendants) o (Some f))) (D × IsClosedAt t o)
  below_case t f D None d = (λ h. cc, λ p. d.1 p.0)
  below_case t f D (Some u) d =
      let each = among-Decides t u.descendants in (
        λ h. (d.0 refl, λ v e m c. let same : u ≡ v = cc in each.0 h m (subst (λ (w : KeptType). Contains w.descendants m) (sym same) c)),
        λ p. each.1 (p.1 u refl),
      )

  below-Decides : (t : KeptType) → Decides (is_none (first_found (type_below_fault k t) t.descendants)) ((n : Name) → Contains t.descendants n → Contains (names_kept k) n × IsClosedAt t (kept_type k n))
  below-Decides t = first-Decides (type_below_fault k t) (λ n. Contains (names_kept k) n × IsClosedAt t (kept_type k n)) (λ n. below_case t (undeclared_type n) (Contains (names_kept k) n) (kept_type k n) (type_found n)) t.descendants

  -- descendants of actions
  abbrev AllActionsAmong : List Uid → List Uid → Type 0
  AllActionsAmong us vs = (v : Uid) → Contains us v → Contains vs v

  actions_among-Decides : (a : KeptAction) (us : List Uid) → Decides (is_none (first_found (action_among a) us)) (AllActionsAmong us a.descendants)
  actions_among-Decides a us = first-Decides (action_among a) (Contains a.descendants) (λ v. unless-Decides (list_any (uid_eq v) a.descendants) (action_left_out a.uid v) (Contains a.descendants v) (found-Decides uid_eq uid_eq-Decides v a.descendants)) us

  abbrev IsActionClosedAt : KeptAction → Option KeptAction → Type 0
  IsActionClosedAt a o = (b : KeptAction) → o ≡ Some b → AllActionsAmong b.descendants a.descendants

  action_below_case : (a : KeptAction) (f : Unsound) (D : Type 0) (o : Option KeptAction) → Decides (is_some o) D → Decides (is_none (option_map_or (λ b. first_found (action_among a) b.descendants) o (Some f))) (D × IsActionClosedAt a o)
  action_below_case a f D None d = (λ h. cc, λ p. d.1 p.0)
  action_below_case a f D (Some b) d =
      let each = actions_among-Decides a b.descendants in (
        λ h. (d.0 refl, λ c e v m. let same : b ≡ c = cc in each.0 h v (subst (λ (w : KeptAction). Contains w.descendants v) (sym same) m)),
        λ p. each.1 (p.1 b refl),
      )

  actions_below-Decides : (a : KeptAction) → Decides (is_none (first_found (action_below_fault k a) a.descendants)) ((u : Uid) → Contains a.descendants u → Contains (uids_kept k) u × IsActionClosedAt a (kept_action k u))
  actions_below-Decides a = first-Decides (action_below_fault k a) (λ u. Contains (uids_kept k) u × IsActionClosedAt a (kept_action k u)) (λ u. action_below_case a (undeclared_action u) (Contains (uids_kept k) u) (kept_action k u) (action_found u)) a.descendants

  descendants-Decides : (a : KeptAction) → Decides (is_none (descendants_fault k a)) ((Contains a.descendants a.uid → ⊥) × ((u : Uid) → Contains a.descendants u → Contains (uids_kept k) u × IsActionClosedAt a (kept_action k u)))
  descendants-Decides a =
      or-Decides (unless (not (list_any (uid_eq a.uid) a.descendants)) (action_below_itself a.uid)) (first_found (action_below_fault k a) a.descendants) _ _
      (unless-Decides (not (list_any (uid_eq a.uid) a.descendants)) (action_below_itself a.uid) (Contains a.descendants a.uid → ⊥) (Decides-not _ (found-Decides uid_eq uid_eq-Decides a.uid a.descendants)))
      (actions_below-Decides a)

  module _ (x : List Name) where
    mutual
      known-Decides : (t : Ty) → Decides (is_none (known_fault x k t)) (IsKnownType x k t)
      known-Decides never = trivial-Decides
      known-Decides (bool_type b) = trivial-Decides
      known-Decides long_type = trivial-Decides
      known-Decides string_type = trivial-Decides
      known-Decides any_entity = trivial-Decides
      known-Decides (entity_types ns) = types-Decides ns
      known-Decides any_set = trivial-Decides
      known-Decides (set_type t) = known-Decides t
      known-Decides (record_type as_ o) = attributes-Decides as_
      known-Decides (extension_type n) = unless-Decides (list_any (name_eq n) x) (unknown_extension n) (Contains x n) (found-Decides name_eq name_eq-Decides n x)

      attributes-Decides : (as_ : Attributes) → Decides (is_none (attributes_fault x k as_)) (AreKnownAttributes x k as_)
      attributes-Decides no_attributes = trivial-Decides
      attributes-Decides (attribute a t r as_) = or-Decides (known_fault x k t) (attributes_fault x k as_) (IsKnownType x k t) (AreKnownAttributes x k as_) (known-Decides t) (attributes-Decides as_)

    tag-Decides : (t : Option Ty) → Decides (is_none (tag_fault x k t)) (IsKnownTag x k t)
    tag-Decides None = trivial-Decides
    tag-Decides (Some t) = known-Decides t

    kind-Decides : (j : EntityKind) → Decides (is_none (kind_fault x k j)) (IsKnownKind x k j)
    kind-Decides (standard as_ t) = or-Decides (attributes_fault x k as_) (tag_fault x k t) (AreKnownAttributes x k as_) (IsKnownTag x k t) (attributes-Decides as_) (tag-Decides t)
    kind-Decides (enumerated ids) = trivial-Decides
    kind-Decides external = trivial-Decides

    -- what the search tells of an entity type
    abbrev IsGoodType : KeptType → Type 0
    IsGoodType t = (action_word ≡ t.name.base → ⊥) × (IsKnownKind x k t.kind × ((n : Name) → Contains t.descendants n → Contains (names_kept k) n × IsClosedAt t (kept_type k n)))

    type-Decides : (t : KeptType) → Decides (is_none (entity_type_fault x k t)) (IsGoodType t)
    type-Decides t =
        or-Decides (unless (not (bytes_eq action_word t.name.base)) (type_as_action t.name)) (option_or (kind_fault x k t.kind) (first_found (type_below_fault k t) t.descendants)) _ _
        (unless-Decides (not (bytes_eq action_word t.name.base)) (type_as_action t.name) (action_word ≡ t.name.base → ⊥) (Decides-not _ (bytes_eq-Decides action_word t.name.base)))
        (or-Decides (kind_fault x k t.kind) (first_found (type_below_fault k t) t.descendants) _ _ (kind-Decides t.kind) (below-Decides t))

    -- contexts
    no_record : (u : Uid) (t : Ty) → ((as_ : Attributes) → t ≡ record_type as_ is_closed → ⊥) → Decides false (IsClosedRecord t × IsKnownType x k t)
    no_record u t h = (λ e. cc, λ p. absurd (h p.0.0 p.0.1))

    context-Decides : (u : Uid) (t : Ty) → Decides (is_none (context_fault x k u t)) (IsClosedRecord t × IsKnownType x k t)
    context-Decides u never = no_record u never (λ as_ e. cc)
    context-Decides u (bool_type b) = no_record u (bool_type b) (λ as_ e. cc)
    context-Decides u long_type = no_record u long_type (λ as_ e. cc)
    context-Decides u string_type = no_record u string_type (λ as_ e. cc)
    context-Decides u any_entity = no_record u any_entity (λ as_ e. cc)
    context-Decides u (entity_types ns) = no_record u (entity_types ns) (λ as_ e. cc)
    context-Decides u any_set = no_record u any_set (λ as_ e. cc)
    context-Decides u (set_type t) = no_record u (set_type t) (λ as_ e. cc)
    context-Decides u (extension_type n) = no_record u (extension_type n) (λ as_ e. cc)
    context-Decides u (record_type as_ is_open) = no_record u (record_type as_ is_open) (λ bs e. cc)
    context-Decides u (record_type as_ is_closed) = let d = attributes-Decides as_ in (λ h. ((as_, refl), d.0 h), λ p. d.1 p.1)

    applied-Decides : (a : KeptAction) → Decides (is_none (applied_fault k a)) (AllAmong a.applied.principals (names_kept k) × AllAmong a.applied.resources (names_kept k))
    applied-Decides a =
        or-Decides (first_found (type_fault k) a.applied.principals) (first_found (type_fault k) a.applied.resources) _ _ (types-Decides a.applied.principals) (types-Decides a.applied.resources)

    -- what the search tells of an action
    abbrev IsGoodAction : KeptAction → Type 0
    IsGoodAction a = (action_word ≡ a.uid.kind.base)
        × ((AllAmong a.applied.principals (names_kept k) × AllAmong a.applied.resources (names_kept k))
        × ((IsClosedRecord a.context × IsKnownType x k a.context)
        × ((Contains a.descendants a.uid → ⊥) × ((u : Uid) → Contains a.descendants u → Contains (uids_kept k) u × IsActionClosedAt a (kept_action k u)))))

    action-Decides : (a : KeptAction) → Decides (is_none (action_fault x k a)) (IsGoodAction a)
    action-Decides a =
        let kind = unless (bytes_eq action_word a.uid.kind.base) (action_of_other_type a.uid) in
        let context = context_fault x k a.uid a.context in
        or-Decides kind (option_or (applied_fault k a) (option_or context (descendants_fault k a))) _ _
        (unless-Decides (bytes_eq action_word a.uid.kind.base) (action_of_other_type a.uid) (action_word ≡ a.uid.kind.base) (bytes_eq-Decides action_word a.uid.kind.base))
        (or-Decides (applied_fault k a) (option_or context (descendants_fault k a)) _ _ (applied-Decides a)
        (or-Decides context (descendants_fault k a) _ _ (context-Decides a.uid a.context) (descendants-Decides a)))

    fault-Decides : Decides (is_none (first_fault x k)) (((t : KeptType) → Contains k.types t → IsGoodType t) × ((a : KeptAction) → Contains k.actions a → IsGoodAction a))
    fault-Decides =
        or-Decides (first_found (entity_type_fault x k) k.types) (first_found (action_fault x k) k.actions) _ _
        (first-Decides (entity_type_fault x k) IsGoodType type-Decides k.types)
        (first-Decides (action_fault x k) IsGoodAction action-Decides k.actions)

  free-Decides : Decides (names_are_free k) (((t : KeptType) → Contains k.types t → is_reserved t.name ≡ false) × ((a : KeptAction) → Contains k.actions a → is_reserved a.uid.kind ≡ false))
  free-Decides =
      Decides-and _ _
      (all-Decides (λ (t : KeptType). not (is_reserved t.name)) (λ t. is_reserved t.name ≡ false) (λ t. not_false (is_reserved t.name)) k.types)
      (all-Decides (λ (a : KeptAction). not (is_reserved a.uid.kind)) (λ a. is_reserved a.uid.kind ≡ false) (λ a. not_false (is_reserved a.uid.kind)) k.actions)

pub sound-Decides : (x : List Name) (k : Kept) → Decides (is_sound x k) (IsSound x k)
sound-Decides x k =
    Decides-like _
    (λ h. record {
      types = λ t c. let g = h.1.0 t c in record { free = h.0.0 t c; apart = λ e. g.0 (sym e); kind = g.1.0; below = λ n m. (g.1.1 n m).0; closed = λ n m. (g.1.1 n m).1 };
      actions = λ a c. let g = h.1.1 a c in record {
        free = h.0.1 a c;
        kind = sym g.0;
        principals = g.1.0.0;
        resources = g.1.0.1;
        record_context = g.1.1.0.0;
        context = g.1.1.0.1;
        below = λ u m. (g.1.1.1.1 u m).0;
        not_itself = g.1.1.1.0;
        closed = λ u m. (g.1.1.1.1 u m).1;
      };
    })
    (λ s. (
      (λ t c. (s.types t c).free, λ a c. (s.actions a c).free),
      (
        λ t c. let g = s.types t c in (λ e. g.apart (sym e), (g.kind, λ n m. (g.below n m, g.closed n m))),
        λ a c. let g = s.actions a c in (sym g.kind, ((g.principals, g.resources), ((g.record_context, g.context), (g.not_itself, λ u m. (g.below u m, g.closed u m))))),
      ),
    ))
    (Decides-and _ _ (free-Decides k) (fault-Decides k x))
