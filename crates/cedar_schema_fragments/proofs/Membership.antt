-- What the sets have once all that is declared is put in.
use Rattle.std.proofs.Common.{◌≡◌, Bool, true, false, ◌||◌, List, [], ◌∷◌, map, refl, sym, ap, ◌∙◌, subst}
use Rattle.std.proofs.lemmas.Map.Text.{is_eq-slice_cmp}
use Rattle.std.specs.List.{list_any}
use Rattle.std.specs.Ordering.{is_eq, nat_cmp, match_ordering, ordering_then}
use Rattle.std.specs.Cmp.Lexicographic.{slice_cmp}
use Rattle.std.specs.declared.cmp.Ordering.{Ordering}
use Rattle.std.specs.declared.cmp.Ordering.TheVariants.{Less, Equal, Greater}
use Rattle.cedar_expr_model.specs.Name.{Name, name_eq, name_text, is_well_formed}
use Rattle.cedar_expr_model.specs.UidOrder.{name_cmp, uid_cmp}
use Rattle.cedar_expr_model.specs.Uid.{Uid, uid_eq}
use Rattle.cedar_expr_model.proofs.Equality.{name_eq-Decides}
use Rattle.std.proofs.lemmas.Slice.Eq.{bytes_eq-Decides}
use Rattle.cedar_expr_names.specs.Views.{name_of, uid_of}
use Rattle.cedar_expr_names.proofs.Equality.{name_eq_is, well_formed}
use Rattle.cedar_schema_model.specs.Join.{name_inserted}
use Rattle.cedar_schema_model.specs.Reference.{Meant, meant_common, meant_entity}
use Rattle.cedar_schema_decl.specs.Defined.{Defined, nothing_defined, is_defined, uid_inserted, with_common, with_entity, with_action}
use Rattle.cedar_schema_fragments.specs.Marked.{all_with, common_names, entity_names, action_uids, with_namespace, with_fragment, namespace_declares, HasAll}
use Rattle.cedar_schema_fragments.specs.declared.namespace_def.ValidatorNamespaceDef.{ValidatorNamespaceDef}
use Rattle.cedar_schema_fragments.specs.declared.namespace_def.ValidatorSchemaFragment.{ValidatorSchemaFragment}

or_false : (a : Bool) → (a || false) ≡ a
or_false true = refl
or_false false = refl

or_assoc : (a b c : Bool) → (a || (b || c)) ≡ ((a || b) || c)
or_assoc true b c = refl
or_assoc false b c = refl

or_comm : (a b : Bool) → (a || b) ≡ (b || a)
or_comm true true = refl
or_comm true false = refl
or_comm false true = refl
or_comm false false = refl

or_again : (a r : Bool) → (a || r) ≡ ((a || r) || a)
or_again true r = refl
or_again false true = refl
or_again false false = refl

-- each of a list is of this kind
abbrev Each : {X : Type 0} → (X → Type 0) → List X → Type 0
Each P [] = Unit {0}
Each P (x ∷ xs) = P x × Each P xs

each_of : {E X : Type 0} (P : X → Type 0) (g : E → X) → ((e : E) → P (g e)) → (es : List E) → Each P (map g es)
each_of P g h [] = tt
each_of P g h (e ∷ es) = (h e, each_of P g h es)

each_any : {X : Type 0} (xs : List X) → Each (λ x. Unit {0}) xs
each_any [] = tt
each_any (x ∷ xs) = (tt, each_any xs)

-- one more in its place
module _ {K : Type 0} (cmp : K → K → Ordering) (Ok : K → Type 0) (equal : (j k : K) → Ok j → Ok k → cmp j k ≡ Equal → j ≡ k) where
  abbrev put : K → List K → List K
  put k [] = k ∷ []
  put k (j ∷ js) = match_ordering (cmp k j) (k ∷ j ∷ js) (j ∷ js) (j ∷ put k js)

  put_keeps : (k : K) (js : List K) → Ok k → Each Ok js → Each Ok (put k js)
  put_keeps k [] h a = (h, tt)
  put_keeps k (j ∷ js) h a = go (cmp k j) (put_keeps k js h a.1)
    where
      go : (o : Ordering) → Each Ok (put k js) → Each Ok (match_ordering o (k ∷ j ∷ js) (j ∷ js) (j ∷ put k js))
      go Less i = (h, a)
      go Equal i = a
      go Greater i = (a.0, i)

  put_any : (p : K → Bool) (k : K) (js : List K) → Ok k → Each Ok js → list_any p (put k js) ≡ (list_any p js || p k)
  put_any p k [] h a = or_false (p k)
  put_any p k (j ∷ js) h a = go (cmp k j) refl (put_any p k js h a.1)
    where
      go : (o : Ordering) → cmp k j ≡ o → list_any p (put k js) ≡ (list_any p js || p k) → list_any p (match_ordering o (k ∷ j ∷ js) (j ∷ js) (j ∷ put k js)) ≡ ((p j || list_any p js) || p k)
      go Less e i = or_comm (p k) (p j || list_any p js)
      go Equal e i = or_again (p j) (list_any p js) ∙ ap (λ b. (p j || list_any p js) || b) (ap p (sym (equal k j h a.0 e)))
      go Greater e i = ap (λ b. p j || b) i ∙ or_assoc (p j) (list_any p js) (p k)

-- names and uids of the code
abbrev NameOk : Name → Type 0
NameOk n = is_well_formed n ≡ true

abbrev UidOk : Uid → Type 0
UidOk u = is_well_formed u.kind ≡ true

equal_names : (m n : Name) → NameOk m → NameOk n → name_cmp m n ≡ Equal → m ≡ n
equal_names m n h k e = (name_eq-Decides m n).0 (sym (name_eq_is m n h k) ∙ sym (is_eq-slice_cmp (name_text m) (name_text n)) ∙ ap is_eq e)

both_equal : (o q : Ordering) → ordering_then o q ≡ Equal → (o ≡ Equal) × (q ≡ Equal)
both_equal Less q e = absurd (cc)
both_equal Equal q e = (refl, e)
both_equal Greater q e = absurd (cc)

equal_uids : (u v : Uid) → UidOk u → UidOk v → uid_cmp u v ≡ Equal → u ≡ v
equal_uids u v h k e =
    let both = both_equal (name_cmp u.kind v.kind) (slice_cmp nat_cmp u.id v.id) e in
    let kinds : u.kind ≡ v.kind = equal_names u.kind v.kind h k both.0 in
    let ids : u.id ≡ v.id = (bytes_eq-Decides u.id v.id).0 (sym (is_eq-slice_cmp u.id v.id) ∙ ap is_eq both.1) in
    λ i. record { kind = kinds i; id = ids i }

name_put : (n : Name) (ms : List Name) → name_inserted n ms ≡ put name_cmp NameOk equal_names n ms
name_put n [] = refl
name_put n (m ∷ ms) = ap (λ rest. match_ordering (name_cmp n m) (n ∷ m ∷ ms) (m ∷ ms) (m ∷ rest)) (name_put n ms)

uid_put : (u : Uid) (vs : List Uid) → uid_inserted u vs ≡ put uid_cmp UidOk equal_uids u vs
uid_put u [] = refl
uid_put u (v ∷ vs) = ap (λ rest. match_ordering (uid_cmp u v) (u ∷ v ∷ vs) (v ∷ vs) (v ∷ rest)) (uid_put u vs)

-- sets of these
record Good (s : Defined) : Type 0 where
  commons_ok : Each NameOk s.commons
  entities_ok : Each NameOk s.entities
  actions_ok : Each UidOk s.actions

-- a step keeps such sets, and adds to what passes a test
record Steps (test : Defined → Bool) (f : Defined → Defined) (adds : Bool) : Type 0 where
  keeps : (s : Defined) → Good s → Good (f s)
  tells : (s : Defined) → Good s → test (f s) ≡ (test s || adds)

module _ {test : Defined → Bool} where
  then_steps : {f h : Defined → Defined} {a b : Bool} → Steps test f a → Steps test h b → Steps test (λ s. h (f s)) (a || b)
  then_steps {f} {h} {a} {b} F H = record {
    keeps = λ s k. H.keeps (f s) (F.keeps s k);
    tells = λ s k. H.tells (f s) (F.keeps s k) ∙ ap (λ c. c || b) (F.tells s k) ∙ sym (or_assoc (test s) a b);
  }

  steps_as : {f : Defined → Defined} {a b : Bool} → Steps test f a → a ≡ b → Steps test f b
  steps_as F e = record { keeps = F.keeps; tells = λ s k. F.tells s k ∙ ap (λ c. test s || c) e }

  all_steps : {X : Type 0} (P : X → Type 0) (f : X → Defined → Defined) (adds : X → Bool) → ((x : X) → P x → Steps test (f x) (adds x)) → (xs : List X) → Each P xs → Steps test (all_with f xs) (list_any adds xs)
  all_steps P f adds h [] a = record { keeps = λ s k. k; tells = λ s k. sym (or_false (test s)) }
  all_steps P f adds h (x ∷ xs) a = then_steps (h x a.0) (all_steps P f adds h xs a.1)

none : {X : Type 0} (xs : List X) → list_any (λ x. false) xs ≡ false
none [] = refl
none (x ∷ xs) = none xs

-- with one more
common_kept : (n : Name) → NameOk n → (s : Defined) → Good s → Good (with_common n s)
common_kept n h s k = record { commons_ok = subst (Each NameOk) (sym (name_put n s.commons)) (put_keeps name_cmp NameOk equal_names n s.commons h k.commons_ok); entities_ok = k.entities_ok; actions_ok = k.actions_ok }

entity_kept : (n : Name) → NameOk n → (s : Defined) → Good s → Good (with_entity n s)
entity_kept n h s k = record { commons_ok = k.commons_ok; entities_ok = subst (Each NameOk) (sym (name_put n s.entities)) (put_keeps name_cmp NameOk equal_names n s.entities h k.entities_ok); actions_ok = k.actions_ok }

action_kept : (u : Uid) → UidOk u → (s : Defined) → Good s → Good (with_action u s)
action_kept u h s k = record { commons_ok = k.commons_ok; entities_ok = k.entities_ok; actions_ok = subst (Each UidOk) (sym (uid_put u s.actions)) (put_keeps uid_cmp UidOk equal_uids u s.actions h k.actions_ok) }

abbrev has_common : Name → Defined → Bool
has_common m s = list_any (name_eq m) s.commons

abbrev has_entity : Name → Defined → Bool
has_entity m s = list_any (name_eq m) s.entities

abbrev has_action : Uid → Defined → Bool
has_action u s = list_any (uid_eq u) s.actions

common_put : (m n : Name) → NameOk n → Steps (has_common m) (with_common n) (name_eq m n)
common_put m n h = record { keeps = common_kept n h; tells = λ s k. ap (list_any (name_eq m)) (name_put n s.commons) ∙ put_any name_cmp NameOk equal_names (name_eq m) n s.commons h k.commons_ok }

entity_put : (m n : Name) → NameOk n → Steps (has_entity m) (with_entity n) (name_eq m n)
entity_put m n h = record { keeps = entity_kept n h; tells = λ s k. ap (list_any (name_eq m)) (name_put n s.entities) ∙ put_any name_cmp NameOk equal_names (name_eq m) n s.entities h k.entities_ok }

action_put : (v u : Uid) → UidOk u → Steps (has_action v) (with_action u) (uid_eq v u)
action_put v u h = record { keeps = action_kept u h; tells = λ s k. ap (list_any (uid_eq v)) (uid_put u s.actions) ∙ put_any uid_cmp UidOk equal_uids (uid_eq v) u s.actions h k.actions_ok }

-- a step that leaves a test as it is
same_test : (test : Defined → Bool) (f : Defined → Defined) → ((s : Defined) → Good s → Good (f s)) → ((s : Defined) → test (f s) ≡ test s) → Steps test f false
same_test test f k t = record { keeps = k; tells = λ s g. t s ∙ sym (or_false (test s)) }

at_first : Good nothing_defined
at_first = record { commons_ok = tt; entities_ok = tt; actions_ok = tt }

-- what a namespace declares
module _ {N A : Type 0} where
  names_ok : (n : ValidatorNamespaceDef N A) → Each NameOk (common_names n.common_types)
  names_ok n = each_of NameOk (λ e. name_of e.0) (λ e. well_formed e.0) n.common_types.defs.items

  types_ok : (n : ValidatorNamespaceDef N A) → Each NameOk (entity_names n.entity_types)
  types_ok n = each_of NameOk (λ e. name_of e.0) (λ e. well_formed e.0) n.entity_types.defs.items

  uids_ok : (n : ValidatorNamespaceDef N A) → Each UidOk (action_uids n.actions)
  uids_ok n = each_of UidOk (λ e. uid_of e.0) (λ e. well_formed (e.0).entity_type.0.internal) n.actions.actions.items

  module _ (test : Defined → Bool) (c e : Name → Bool) (a : Uid → Bool) (hc : (n : Name) → NameOk n → Steps test (with_common n) (c n)) (he : (n : Name) → NameOk n → Steps test (with_entity n) (e n)) (ha : (u : Uid) → UidOk u → Steps test (with_action u) (a u)) where
    space_steps : (n : ValidatorNamespaceDef N A) → Steps test (with_namespace n) ((list_any c (common_names n.common_types) || list_any e (entity_names n.entity_types)) || list_any a (action_uids n.actions))
    space_steps n = then_steps (then_steps (all_steps NameOk with_common c hc (common_names n.common_types) (names_ok n)) (all_steps NameOk with_entity e he (entity_names n.entity_types) (types_ok n))) (all_steps UidOk with_action a ha (action_uids n.actions) (uids_ok n))

  common_space : (m : Name) (n : ValidatorNamespaceDef N A) → Steps (has_common m) (with_namespace n) (list_any (name_eq m) (common_names n.common_types))
  common_space m n = steps_as
      (space_steps (has_common m) (name_eq m) (λ x. false) (λ x. false) (common_put m) (λ x h. same_test (has_common m) (with_entity x) (entity_kept x h) (λ s. refl)) (λ x h. same_test (has_common m) (with_action x) (action_kept x h) (λ s. refl)) n)
      (ap (λ b. (list_any (name_eq m) (common_names n.common_types) || list_any (λ x. false) (entity_names n.entity_types)) || b) (none (action_uids n.actions)) ∙ or_false (list_any (name_eq m) (common_names n.common_types) || list_any (λ x. false) (entity_names n.entity_types)) ∙ ap (λ b. list_any (name_eq m) (common_names n.common_types) || b) (none (entity_names n.entity_types)) ∙ or_false (list_any (name_eq m) (common_names n.common_types)))

  entity_space : (m : Name) (n : ValidatorNamespaceDef N A) → Steps (has_entity m) (with_namespace n) (list_any (name_eq m) (entity_names n.entity_types))
  entity_space m n = steps_as
      (space_steps (has_entity m) (λ x. false) (name_eq m) (λ x. false) (λ x h. same_test (has_entity m) (with_common x) (common_kept x h) (λ s. refl)) (entity_put m) (λ x h. same_test (has_entity m) (with_action x) (action_kept x h) (λ s. refl)) n)
      (ap (λ b. (list_any (λ x. false) (common_names n.common_types) || list_any (name_eq m) (entity_names n.entity_types)) || b) (none (action_uids n.actions)) ∙ or_false (list_any (λ x. false) (common_names n.common_types) || list_any (name_eq m) (entity_names n.entity_types)) ∙ ap (λ b. b || list_any (name_eq m) (entity_names n.entity_types)) (none (common_names n.common_types)))

  action_space : (u : Uid) (n : ValidatorNamespaceDef N A) → Steps (has_action u) (with_namespace n) (list_any (uid_eq u) (action_uids n.actions))
  action_space u n = steps_as
      (space_steps (has_action u) (λ x. false) (λ x. false) (uid_eq u) (λ x h. same_test (has_action u) (with_common x) (common_kept x h) (λ s. refl)) (λ x h. same_test (has_action u) (with_entity x) (entity_kept x h) (λ s. refl)) (action_put u) n)
      (ap (λ b. (b || list_any (λ x. false) (entity_names n.entity_types)) || list_any (uid_eq u) (action_uids n.actions)) (none (common_names n.common_types)) ∙ ap (λ b. b || list_any (uid_eq u) (action_uids n.actions)) (none (entity_names n.entity_types)))

  -- what fragments declare
  module _ (test : Defined → Bool) (adds : ValidatorNamespaceDef N A → Bool) (h : (n : ValidatorNamespaceDef N A) → Steps test (with_namespace n) (adds n)) where
    fragment_steps : (f : ValidatorSchemaFragment N A) → Steps test (with_fragment f) (list_any adds f.0.items)
    fragment_steps f = all_steps (λ n. Unit {0}) with_namespace adds (λ n t. h n) f.0.items (each_any f.0.items)

    fragments_steps : (fs : List (ValidatorSchemaFragment N A)) → Steps test (all_with with_fragment fs) (list_any (λ f. list_any adds f.0.items) fs)
    fragments_steps fs = all_steps (λ f. Unit {0}) with_fragment (λ f. list_any adds f.0.items) (λ f t. fragment_steps f) fs (each_any fs)

  pub all_marked : (fs : List (ValidatorSchemaFragment N A)) → HasAll fs (all_with with_fragment fs nothing_defined)
  all_marked fs = record { types = types; actions = λ u. (fragments_steps (has_action u) (λ n. list_any (uid_eq u) (action_uids n.actions)) (action_space u) fs).tells nothing_defined at_first }
    where
      types : (m : Meant) → is_defined (all_with with_fragment fs nothing_defined) m ≡ list_any (λ f. list_any (namespace_declares m) f.0.items) fs
      types (meant_common m) = (fragments_steps (has_common m) (λ n. list_any (name_eq m) (common_names n.common_types)) (common_space m) fs).tells nothing_defined at_first
      types (meant_entity m) = (fragments_steps (has_entity m) (λ n. list_any (name_eq m) (entity_names n.entity_types)) (entity_space m) fs).tells nothing_defined at_first
