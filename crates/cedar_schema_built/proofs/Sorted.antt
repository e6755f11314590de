-- What is put in order has what was put, one of each name.
use Rattle.std.proofs.Common.{◌≡◌, ◌⊎◌, true, ◌&&◌, List, [], ◌∷◌, map, refl, sym, ap, ◌∙◌, subst, inl, inr, ⊎_elim}
use Rattle.std.specs.Prelude.{Contains}
use Rattle.std.specs.Cmp.Lexicographic.{slice_cmp}
use Rattle.std.specs.Ordering.{is_eq, match_ordering, nat_cmp, ordering_then}
use Rattle.std.specs.declared.cmp.Ordering.{Ordering}
use Rattle.std.specs.declared.cmp.Ordering.TheVariants.{Less, Equal, Greater}
use Rattle.std.proofs.lemmas.Map.Text.{is_eq-slice_cmp}
use Rattle.std.proofs.lemmas.Slice.Eq.{bytes_eq-Decides}
use Rattle.cedar_expr_model.specs.Name.{Name, name_text, is_well_formed}
use Rattle.cedar_expr_model.specs.Uid.{Uid}
use Rattle.cedar_expr_model.specs.UidOrder.{name_cmp, uid_cmp}
use Rattle.cedar_expr_model.proofs.Equality.{name_eq-Decides}
use Rattle.cedar_expr_model.proofs.Lists.{contains_cases, contains_none, contains_head, contains_tail, map_has, map_from, both_hold}
use Rattle.cedar_expr_names.proofs.Equality.{name_eq_is, well_formed}
use Rattle.cedar_schema_model.specs.BagLaws.{HasTwice}
use Rattle.cedar_schema_model.specs.Schema.{EntityType, Action, Schema}
use Rattle.cedar_schema_model.specs.Kept.{KeptType, KeptAction}
use Rattle.cedar_schema_model.specs.KeptOf.{IsSameType, IsSameAction, IsKeptOf}
use Rattle.cedar_schema_entries.specs.Views.{entity_type_seen, action_seen}
use Rattle.cedar_schema_entries.specs.declared.entity_type.ValidatorEntityType.{ValidatorEntityType}
use Rattle.cedar_schema_entries.specs.declared.action.ValidatorActionId.{ValidatorActionId}
use Rattle.cedar_schema_assembly.specs.Pieces.{AreTypesOf, AreActionsOf, PiecesAreKept}
use Rattle.cedar_schema_built.specs.Put.{put, all_put}

-- each of them is such
abbrev Each : {A : Type 0} → (A → Type 0) → List A → Type 0
Each {A} P xs = (x : A) → Contains xs x → P x

module _ {S A : Type 0} (by : S → S → Ordering) (name : A → S) (P : A → Type 0) (same : (a b : A) → P a → P b → by (name a) (name b) ≡ Equal → name a ≡ name b) where
  put_case : (a b : A) (bs : List A) (x : A) (o : Ordering) → (Contains (put by name a bs) x → Contains (a ∷ bs) x) → Contains (match_ordering o (a ∷ b ∷ bs) (a ∷ bs) (b ∷ put by name a bs)) x → Contains (a ∷ b ∷ bs) x
  put_case a b bs x Less rest h = h
  put_case a b bs x Equal rest h = contains_cases (Contains (a ∷ b ∷ bs) x) a bs x h (λ e. subst (Contains (a ∷ b ∷ bs)) e (contains_head a (b ∷ bs))) (λ k. contains_tail a (b ∷ bs) x (contains_tail b bs x k))
  put_case a b bs x Greater rest h =
      contains_cases (Contains (a ∷ b ∷ bs) x) b (put by name a bs) x h
      (λ e. contains_tail a (b ∷ bs) x (subst (Contains (b ∷ bs)) e (contains_head b bs)))
      (λ k. contains_cases (Contains (a ∷ b ∷ bs) x) a bs x (rest k) (λ e. subst (Contains (a ∷ b ∷ bs)) e (contains_head a (b ∷ bs))) (λ l. contains_tail a (b ∷ bs) x (contains_tail b bs x l)))

  put_within : (a : A) (bs : List A) (x : A) → Contains (put by name a bs) x → Contains (a ∷ bs) x
  put_within a [] x h = h
  put_within a (b ∷ bs) x h = put_case a b bs x (by (name a) (name b)) (put_within a bs x) h

  put_each : (a : A) (bs : List A) → P a → Each P bs → Each P (put by name a bs)
  put_each a bs p ps x h = contains_cases (P x) a bs x (put_within a bs x h) (λ e. subst P e p) (ps x)

  -- what is put in order was there, or was put
  all_within : (bs as_ : List A) (x : A) → Contains (all_put by name bs as_) x → Contains bs x ⊎ Contains as_ x
  all_within bs [] x h = inl h
  all_within bs (a ∷ as_) x h =
      ⊎_elim
      (λ k. contains_cases (Contains bs x ⊎ Contains (a ∷ as_) x) a bs x (put_within a bs x k) (λ e. inr (subst (Contains (a ∷ as_)) e (contains_head a as_))) (λ l. inl l))
      (λ k. inr (contains_tail a as_ x k))
      (all_within (put by name a bs) as_ x h)

  pub put_only : (as_ : List A) (x : A) → Contains (all_put by name [] as_) x → Contains as_ x
  put_only as_ x h = ⊎_elim (λ k. absurd (contains_none x k)) (λ k. k) (all_within [] as_ x h)

  -- one of the name of each is there
  abbrev OneNamed : List A → A → Type 0
  OneNamed ys x = (y : A) × Contains ys y × (name y ≡ name x)

  named_case : (a b : A) (bs : List A) (x : A) (o : Ordering) → by (name a) (name b) ≡ o → P a → P b → (Contains (a ∷ bs) x → OneNamed (put by name a bs) x) → Contains (a ∷ b ∷ bs) x → OneNamed (match_ordering o (a ∷ b ∷ bs) (a ∷ bs) (b ∷ put by name a bs)) x
  named_case a b bs x Less e p q rest h = (x, h, refl)
  named_case a b bs x Equal e p q rest h =
      contains_cases (OneNamed (a ∷ bs) x) a (b ∷ bs) x h
      (λ k. (a, contains_head a bs, ap name k))
      (λ k. contains_cases (OneNamed (a ∷ bs) x) b bs x k (λ l. (a, contains_head a bs, same a b p q e ∙ ap name l)) (λ l. (x, contains_tail a bs x l, refl)))
  named_case a b bs x Greater e p q rest h =
      contains_cases (OneNamed (b ∷ put by name a bs) x) a (b ∷ bs) x h
      (λ k. later (rest (subst (Contains (a ∷ bs)) k (contains_head a bs))))
      (λ k. contains_cases (OneNamed (b ∷ put by name a bs) x) b bs x k (λ l. (b, contains_head b (put by name a bs), ap name l)) (λ l. later (rest (contains_tail a bs x l))))
    where
      later : OneNamed (put by name a bs) x → OneNamed (b ∷ put by name a bs) x
      later y = (y.0, contains_tail b (put by name a bs) y.0 y.1, y.2)

  put_named : (a : A) (bs : List A) → P a → Each P bs → (x : A) → Contains (a ∷ bs) x → OneNamed (put by name a bs) x
  put_named a [] p ps x h = (x, h, refl)
  put_named a (b ∷ bs) p ps x h = named_case a b bs x (by (name a) (name b)) refl p (ps b (contains_head b bs)) (put_named a bs p (λ y k. ps y (contains_tail b bs y k)) x) h

  all_named : (bs as_ : List A) → Each P bs → Each P as_ → (x : A) → Contains bs x ⊎ Contains as_ x → OneNamed (all_put by name bs as_) x
  all_named bs [] ps qs x h = ⊎_elim (λ k. (x, k, refl)) (λ k. absurd (contains_none x k)) h
  all_named bs (a ∷ as_) ps qs x h =
      let next : (y : A) → Contains (put by name a bs) y ⊎ Contains as_ y → OneNamed (all_put by name bs (a ∷ as_)) y = all_named (put by name a bs) as_ (put_each a bs (qs a (contains_head a as_)) ps) (λ z l. qs z (contains_tail a as_ z l)) in
      let on : Contains (a ∷ bs) x → OneNamed (all_put by name bs (a ∷ as_)) x = λ k. let y = put_named a bs (qs a (contains_head a as_)) ps x k in
      let z = next y.0 (inl y.1) in
      (z.0, z.1, z.2 ∙ y.2) in
      ⊎_elim (λ k. on (contains_tail a bs x k)) (λ k. contains_cases (OneNamed (all_put by name bs (a ∷ as_)) x) a as_ x k (λ e. on (subst (Contains (a ∷ bs)) e (contains_head a bs))) (λ l. next x (inr l))) h

  pub one_put : (as_ : List A) → Each P as_ → (x : A) → Contains as_ x → OneNamed (all_put by name [] as_) x
  one_put as_ ps x h = all_named [] as_ (λ y k. absurd (contains_none y k)) ps x (inr h)

-- of things that are named apart one alone has a name
one_alone : {X K : Type 0} (key : X → K) (xs : List X) → (HasTwice (map key xs) → ⊥) → (x y : X) → Contains xs x → Contains xs y → key x ≡ key y → x ≡ y
one_alone key [] once x y h k e = absurd (contains_none x h)
one_alone key (z ∷ xs) once x y h k e =
    contains_cases (x ≡ y) z xs x h
    (λ f. contains_cases (x ≡ y) z xs y k (λ g. sym f ∙ g)
    (λ g. absurd (once (inl (subst (Contains (map key xs)) (sym e ∙ ap key (sym f)) (map_has key xs y g))))))
    (λ f. contains_cases (x ≡ y) z xs y k
    (λ g. absurd (once (inl (subst (Contains (map key xs)) (e ∙ ap key (sym g)) (map_has key xs x f)))))
    (λ g. one_alone key xs (λ t. once (inr t)) x y f g e))

-- names and uids that are equal in their order are the same
pub name_same : (m n : Name) → is_well_formed m ≡ true → is_well_formed n ≡ true → name_cmp m n ≡ Equal → m ≡ n
name_same m n p q e = (name_eq-Decides m n).0 (sym (name_eq_is m n p q) ∙ sym (is_eq-slice_cmp (name_text m) (name_text n)) ∙ ap is_eq e)

both_equal : (o p : Ordering) → is_eq (ordering_then o p) ≡ (is_eq o && is_eq p)
both_equal Less p = refl
both_equal Equal p = refl
both_equal Greater p = refl

is_equal : (o : Ordering) → is_eq o ≡ true → o ≡ Equal
is_equal Less e = absurd (cc)
is_equal Equal e = refl
is_equal Greater e = absurd (cc)

uid_same : (u v : Uid) → is_well_formed u.kind ≡ true → is_well_formed v.kind ≡ true → uid_cmp u v ≡ Equal → u ≡ v
uid_same u v p q e =
    let b = both_hold (is_eq (name_cmp u.kind v.kind)) (is_eq (slice_cmp nat_cmp u.id v.id)) (sym (both_equal (name_cmp u.kind v.kind) (slice_cmp nat_cmp u.id v.id)) ∙ ap is_eq e) in
    let kind : u.kind ≡ v.kind = name_same u.kind v.kind p q (is_equal (name_cmp u.kind v.kind) b.0) in
    let id : u.id ≡ v.id = (bytes_eq-Decides u.id v.id).0 (sym (is_eq-slice_cmp u.id v.id) ∙ b.1) in
    λ i. record { kind = kind i; id = id i }

abbrev IsNamed : KeptType → Type 0
IsNamed t = is_well_formed t.name ≡ true

abbrev HasKind : KeptAction → Type 0
HasKind a = is_well_formed a.uid.kind ≡ true

types_named : (ts : List ValidatorEntityType) → Each IsNamed (map entity_type_seen ts)
types_named ts t h = let r = map_from entity_type_seen ts t h in subst IsNamed r.2 (well_formed r.0.name.0.internal)

actions_named : (as_ : List ValidatorActionId) → Each HasKind (map action_seen as_)
actions_named as_ a h = let r = map_from action_seen as_ a h in subst HasKind r.2 (well_formed r.0.name.entity_type.0.internal)

module _ (s : Schema) (ts : List KeptType) (named : Each IsNamed ts) (of : AreTypesOf s ts) where
  abbrev put_types : List KeptType
  put_types = all_put name_cmp (λ t. t.name) [] ts

  type_there : (t : KeptType) → Contains put_types t → Contains ts t
  type_there t h = put_only name_cmp (λ t. t.name) IsNamed (λ a b p q e. name_same a.name b.name p q e) ts t h

  pub types_put : AreTypesOf s put_types
  types_put = record {
    each = λ t h. of.each t (type_there t h);
    all = λ e h.
        let t = of.all e h in
        let y = one_put name_cmp (λ t. t.name) IsNamed (λ a b p q e. name_same a.name b.name p q e) ts named t.0 t.1 in
        let b = of.each y.0 (type_there y.0 y.1) in
        let is : b.0 ≡ e = one_alone (λ (k : EntityType). k.name) s.types of.once b.0 e b.1 h (sym b.2.name ∙ y.2 ∙ t.2.name) in
        (y.0, y.1, subst (IsSameType y.0) is b.2);
    once = of.once;
    below = λ t h. of.below t (type_there t h);
  }

module _ (s : Schema) (as_ : List KeptAction) (named : Each HasKind as_) (of : AreActionsOf s as_) where
  abbrev put_actions : List KeptAction
  put_actions = all_put uid_cmp (λ a. a.uid) [] as_

  action_there : (a : KeptAction) → Contains put_actions a → Contains as_ a
  action_there a h = put_only uid_cmp (λ a. a.uid) HasKind (λ a b p q e. uid_same a.uid b.uid p q e) as_ a h

  pub actions_put : AreActionsOf s put_actions
  actions_put = record {
    each = λ a h. of.each a (action_there a h);
    all = λ b h.
        let a = of.all b h in
        let y = one_put uid_cmp (λ a. a.uid) HasKind (λ a b p q e. uid_same a.uid b.uid p q e) as_ named a.0 a.1 in
        let c = of.each y.0 (action_there y.0 y.1) in
        let is : c.0 ≡ b = one_alone (λ (k : Action). k.uid) s.actions of.once c.0 b c.1 h (sym c.2.uid ∙ y.2 ∙ a.2.uid) in
        (y.0, y.1, subst (IsSameAction y.0) is c.2);
    once = of.once;
    below = λ a h. of.below a (action_there a h);
  }

pub new_keeps : PiecesAreKept → (s : Schema) (ts : List ValidatorEntityType) (as_ : List ValidatorActionId) → AreTypesOf s (map entity_type_seen ts) → AreActionsOf s (map action_seen as_)
    → IsKeptOf s (record { types = all_put name_cmp (λ t. t.name) [] (map entity_type_seen ts); actions = all_put uid_cmp (λ a. a.uid) [] (map action_seen as_) })
new_keeps pieces s ts as_ t a =
    pieces s (record { types = all_put name_cmp (λ t. t.name) [] (map entity_type_seen ts); actions = all_put uid_cmp (λ a. a.uid) [] (map action_seen as_) })
    (types_put s (map entity_type_seen ts) (types_named ts) t)
    (actions_put s (map action_seen as_) (actions_named as_) a)
