-- What is asked of what is kept is what a schema as it is seen answers.
use Rattle.std.proofs.Common.{◌++◌, ◌≡◌, ◌∙◌, List, [], ◌∷◌, map, Bool, true, false, cond, not, ◌&&◌, ◌||◌, Some, refl, sym, ap, subst, inl, inr}
use Rattle.std.specs.Prelude.{Contains}
use Rattle.std.specs.Bool.{Decides, one_answer}
use Rattle.std.specs.List.{list_any, filter, flat_map, find}
use Rattle.std.specs.Option.{option_map_or}
use Rattle.std.proofs.lemmas.Bool.Decides.{Decides-and}
use Rattle.cedar_expr_model.specs.Name.{Name, name_eq}
use Rattle.cedar_expr_model.specs.Uid.{Uid, uid_eq}
use Rattle.cedar_expr_model.proofs.Equality.{name_eq-Decides, uid_eq-Decides}
use Rattle.cedar_expr_model.proofs.Lists.{contains_head, contains_tail, contains_cases, contains_none, map_has, map_from, filter_has, filter_only, flat_has, flat_from, any-Decides, found-Decides}
use Rattle.cedar_schema_model.specs.BagLaws.{HasTwice}
use Rattle.cedar_schema_model.specs.DeclLaws.{ActionTypeDescends}
use Rattle.cedar_schema_model.specs.Descent.{action_uids, descends, action_descends, action_type_descends}
use Rattle.cedar_schema_model.specs.Environment.{environments, types_above}
use Rattle.cedar_schema_model.proofs.Named.{environments_of}
use Rattle.cedar_schema_model.proofs.Decls.Descent.{action_type_descends-Decides}
use Rattle.cedar_schema_model.specs.Kept.{KeptType, KeptAction, Kept, kept_action_ancestors}
use Rattle.cedar_typechecker_model.specs.ScopeRules.{is_action_type}
use Rattle.cedar_typechecker_model.specs.Asked.{type_is_below, action_is_below, KindPair, pairs_of, is_pair, kind_is_below, is_kind, others_above, environments_kept}
use Rattle.cedar_typechecker_model.specs.Seen.{action_seen, schema_seen, uids_kept, IsClosed, IsKeptOnce}
use Rattle.cedar_typechecker_model.proofs.Seen.Found.{type_names_seen, action_uids_seen}
use Rattle.cedar_typechecker_model.proofs.Seen.Reaching.{descends_one, action_descends_one, action_descends_above}

module _ {A S : Type 0} (eq : S → S → Bool) (decides : (s t : S) → Decides (eq s t) (s ≡ t)) (name : A → S) (test : A → Bool) where
  abbrev names_that : List A → List S
  names_that as_ = map name (filter test as_)

  -- a name that none of them has is none of those that pass
  not_named : (s : S) (as_ : List A) → (Contains (map name as_) s → ⊥) → list_any (eq s) (names_that as_) ≡ false
  not_named s as_ h = go (list_any (eq s) (names_that as_)) refl
    where
      go : (b : Bool) → list_any (eq s) (names_that as_) ≡ b → b ≡ false
      go false e = refl
      go true e =
          let r = map_from name (filter test as_) s ((found-Decides eq decides s (names_that as_)).0 e) in
          let f = filter_only test as_ r.0 r.1 in
          absurd (h (subst (Contains (map name as_)) r.2 (map_has name as_ r.0 f.0)))

  -- a name is one of those that pass where what is found under it passes
  pub passes_found : (s : S) (as_ : List A) → (HasTwice (map name as_) → ⊥) → option_map_or test (find (λ a. eq s (name a)) as_) false ≡ list_any (eq s) (names_that as_)
  passes_found s [] once = refl
  passes_found s (a ∷ as_) once = go (eq s (name a)) refl (passes_found s as_ (λ h. once (inr h)))
    where
      here : eq s (name a) ≡ true → (b : Bool) → test a ≡ b → test a ≡ list_any (eq s) (map name (cond b (a ∷ filter test as_) (filter test as_)))
      here e true k = k ∙ sym (ap (λ c. c || list_any (eq s) (names_that as_)) e)
      here e false k = k ∙ sym (not_named s as_ (λ c. once (inl (subst (Contains (map name as_)) ((decides s (name a)).0 e) c))))

      there : eq s (name a) ≡ false → (b : Bool) → list_any (eq s) (names_that as_) ≡ list_any (eq s) (map name (cond b (a ∷ filter test as_) (filter test as_)))
      there e true = sym (ap (λ c. c || list_any (eq s) (names_that as_)) e)
      there e false = refl

      go : (b : Bool) → eq s (name a) ≡ b → option_map_or test (find (λ a. eq s (name a)) as_) false ≡ list_any (eq s) (names_that as_)
          → option_map_or test (cond b (Some a) (find (λ a. eq s (name a)) as_)) false ≡ list_any (eq s) (names_that (a ∷ as_))
      go true e rest = here e (test a) refl
      go false e rest = rest ∙ there e (test a)

  -- two of one name are one
  once_same : (as_ : List A) → (HasTwice (map name as_) → ⊥) → (a b : A) → Contains as_ a → Contains as_ b → name a ≡ name b → a ≡ b
  once_same [] once a b c d e = absurd (contains_none a c)
  once_same (x ∷ as_) once a b c d e =
      contains_cases (a ≡ b) x as_ a c
      (λ p. contains_cases (a ≡ b) x as_ b d
      (λ q. sym p ∙ q)
      (λ k. absurd (once (inl (subst (Contains (map name as_)) (sym e ∙ sym (ap name p)) (map_has name as_ b k))))))
      (λ l. contains_cases (a ≡ b) x as_ b d
      (λ q. absurd (once (inl (subst (Contains (map name as_)) (e ∙ sym (ap name q)) (map_has name as_ a l)))))
      (λ k. once_same as_ (λ h. once (inr h)) a b l k e))

  -- one passes where its name is one of those that pass
  passes_named : (as_ : List A) → (HasTwice (map name as_) → ⊥) → (a : A) → Contains as_ a → list_any (eq (name a)) (names_that as_) ≡ test a
  passes_named as_ once a c = one_answer _ (test a) (λ e. only ((found-Decides eq decides (name a) (names_that as_)).0 e), λ h. (found-Decides eq decides (name a) (names_that as_)).1 (map_has name (filter test as_) a (filter_has test as_ a c h))) (λ h. h, λ h. h)
    where
      only : Contains (names_that as_) (name a) → test a ≡ true
      only k =
          let r = map_from name (filter test as_) (name a) k in
          let f = filter_only test as_ r.0 r.1 in
          ap test (sym (once_same as_ once r.0 a f.0 c r.2)) ∙ f.1

-- a list of names that pass two tests, of which the first is one of what has the name
filtered_by_name : {A S : Type 0} (name : A → S) (test : A → Bool) (first second : S → Bool) (as_ : List A) → ((a : A) → Contains as_ a → first (name a) ≡ test a) → filter (λ s. first s && second s) (map name as_) ≡ filter second (map name (filter test as_))
filtered_by_name name test first second [] h = refl
filtered_by_name {A} {S} name test first second (a ∷ as_) h =
    ap (λ b. cond (b && second (name a)) (name a ∷ filter (λ s. first s && second s) (map name as_)) (filter (λ s. first s && second s) (map name as_))) (h a (contains_head a as_))
    ∙ step (test a) (second (name a)) refl (filtered_by_name name test first second as_ (λ b c. h b (contains_tail a as_ b c)))
  where
    rest : List S
    rest = filter (λ s. first s && second s) (map name as_)

    step : (b c : Bool) → second (name a) ≡ c → filter (λ s. first s && second s) (map name as_) ≡ filter second (map name (filter test as_))
        → cond (b && c) (name a ∷ filter (λ s. first s && second s) (map name as_)) (filter (λ s. first s && second s) (map name as_)) ≡ filter second (map name (cond b (a ∷ filter test as_) (filter test as_)))
    step true true e r = (λ i. name a ∷ r i) ∙ sym (ap (λ c. cond c (name a ∷ filter second (map name (filter test as_))) (filter second (map name (filter test as_)))) e)
    step true false e r = r ∙ sym (ap (λ c. cond c (name a ∷ filter second (map name (filter test as_))) (filter second (map name (filter test as_)))) e)
    step false c e r = r

module _ (k : Kept) (h : IsClosed k) (o : IsKeptOnce k) where
  abbrev below_type : Name → KeptType → Bool
  below_type m t = list_any (name_eq m) t.descendants

  pub type_asked : (m n : Name) → type_is_below k m n ≡ descends (schema_seen k) m n
  type_asked m n = passes_found name_eq name_eq-Decides (λ (t : KeptType). t.name) (below_type m) n k.types o.types ∙ sym (descends_one k h m n)

  abbrev below_action : Uid → KeptAction → Bool
  below_action u a = list_any (uid_eq u) a.descendants

  pub action_asked : (u v : Uid) → action_is_below k u v ≡ action_descends (schema_seen k) u v
  action_asked u v = passes_found uid_eq uid_eq-Decides (λ (a : KeptAction). a.uid) (below_action u) v k.actions o.actions ∙ sym (action_descends_one k h u v)

  -- the types above one, in the order in which types are kept
  pub others_asked : (n : Name) → others_above k n ≡ types_above (schema_seen k) n
  others_asked n =
      sym (filtered_by_name (λ (t : KeptType). t.name) (below_type n) (descends (schema_seen k) n) (λ m. not (name_eq m n)) k.types
      (λ t c. descends_one k h n t.name ∙ passes_named name_eq name_eq-Decides (λ (t : KeptType). t.name) (below_type n) k.types o.types t c))
      ∙ ap (filter (λ m. descends (schema_seen k) n m && not (name_eq m n))) (sym (type_names_seen k))

-- types of actions
kind_has : (as_ : List KeptAction) (n : Name) → is_kind as_ n ≡ list_any (λ (u : Uid). name_eq n u.kind) (map (λ (a : KeptAction). a.uid) as_)
kind_has [] n = refl
kind_has (a ∷ as_) n = ap (λ b. name_eq n a.uid.kind || b) (kind_has as_ n)

pub kind_asked : (k : Kept) (n : Name) → is_kind k.actions n ≡ is_action_type (schema_seen k) n
kind_asked k n = kind_has k.actions n ∙ ap (list_any (λ (u : Uid). name_eq n u.kind)) (sym (action_uids_seen k))

abbrev IsPair : Name → Name → KindPair → Type 0
IsPair m n p = (m ≡ p.below) × (n ≡ p.above)

abbrev HasPair : Kept → Name → Name → Type 0
HasPair k m n = (p : KindPair) × Contains (flat_map pairs_of k.actions) p × IsPair m n p

module _ (k : Kept) (h : IsClosed k) where
  pair-Decides : (m n : Name) → Decides (kind_is_below k.actions m n) (HasPair k m n)
  pair-Decides m n = any-Decides (is_pair m n) (IsPair m n) (λ p. Decides-and _ _ (name_eq-Decides m p.below) (name_eq-Decides n p.above)) (flat_map pairs_of k.actions)

  abbrev pair : Uid → KeptAction → KindPair
  pair u a = record { below = u.kind; above = a.uid.kind }

  pair_there : (m n : Name) → ActionTypeDescends (schema_seen k) m n → HasPair k m n
  pair_there m n r =
      let u = r.0 in
      let v = r.3.0 in
      let c = (action_descends_above k h u v).0 r.3.1.1 in
      let a = map_from (λ (a : KeptAction). a.uid) (filter (λ a. list_any (uid_eq u) a.descendants) k.actions) v c in
      let f = filter_only (λ (a : KeptAction). list_any (uid_eq u) a.descendants) k.actions a.0 a.1 in
      let d = (found-Decides uid_eq uid_eq-Decides u a.0.descendants).0 f.1 in
      (pair u a.0, flat_has pairs_of k.actions a.0 (pair u a.0) f.0 (map_has (λ w. pair w a.0) a.0.descendants u d), (r.2, r.3.2 ∙ sym (ap (λ (w : Uid). w.kind) a.2)))

  pair_from : (m n : Name) → HasPair k m n → ActionTypeDescends (schema_seen k) m n
  pair_from m n r =
      let a = flat_from pairs_of k.actions r.0 r.1 in
      let u = map_from (λ w. pair w a.0) a.0.descendants r.0 a.2 in
      let v = a.0.uid in
      let c : Contains (kept_action_ancestors k u.0) v =
      map_has (λ (a : KeptAction). a.uid) (filter (λ a. list_any (uid_eq u.0) a.descendants) k.actions) a.0
      (filter_has (λ (a : KeptAction). list_any (uid_eq u.0) a.descendants) k.actions a.0 a.1 ((found-Decides uid_eq uid_eq-Decides u.0 a.0.descendants).1 u.1)) in
      let there : (w : Uid) → Contains (uids_kept k) w → Contains (action_uids (schema_seen k)) w = λ w d. subst (λ l. Contains l w) (sym (action_uids_seen k)) d in (
        u.0,
        there u.0 (h.actions_there u.0 v c),
        r.2.0 ∙ sym (ap (λ (p : KindPair). p.below) u.2),
        (v, (there v (map_has (λ (a : KeptAction). a.uid) k.actions a.0 a.1), (action_descends_above k h u.0 v).1 c), r.2.1 ∙ sym (ap (λ (p : KindPair). p.above) u.2)),
      )

  pub kinds_asked : (m n : Name) → kind_is_below k.actions m n ≡ action_type_descends (schema_seen k) m n
  kinds_asked m n =
      let a = pair-Decides m n in
      let b = action_type_descends-Decides (schema_seen k) m n in
      one_answer _ _ (λ e. pair_from m n (a.0 e), λ c. a.1 (pair_there m n c)) b

-- environments
pub environments_asked : (k : Kept) → flat_map environments_kept k.actions ≡ environments (schema_seen k)
environments_asked k = go k.actions
  where
    go : (as_ : List KeptAction) → flat_map environments_kept as_ ≡ flat_map environments_of (map (action_seen k) as_)
    go [] = refl
    go (a ∷ as_) = ap (λ es. environments_kept a ++ es) (go as_)
