-- Declarations in another order make the same schema.
use Rattle.std.proofs.Common.{◌≡◌, ℕ, zero, suc, List, [], ◌∷◌, length, Bool, true, false, map, Option, Some, None, refl, sym, ap, ◌∙◌, subst, inl, inr, arith}
use Rattle.std.specs.Prelude.{Contains, if◌then◌else◌, find, option_map}
use Rattle.std.specs.Bool.{Decides}
use Rattle.std.specs.List.{filter_map, cons_option}
use Rattle.std.specs.List.Sorted.{IsPermutation}
use Rattle.std.proofs.lemmas.List.Sorted.{IsPermutation-sym, IsPermutation-map, Contains-permutation, length_permutation}
use Rattle.cedar_expr_model.specs.Name.{Name, name_eq}
use Rattle.cedar_expr_model.specs.Uid.{Uid, uid_eq}
use Rattle.cedar_expr_model.proofs.Equality.{name_eq-Decides, uid_eq-Decides}
use Rattle.cedar_expr_model.proofs.Lists.{contains_cases, contains_none, contains_head, contains_tail, map_has}
use Rattle.cedar_schema_model.specs.Types.{Ty, set_type, record_type, is_closed}
use Rattle.cedar_schema_model.specs.Schema.{standard, EntityType, Action, type_named, action_with}
use Rattle.cedar_schema_model.specs.Reference.{Namespace, to_entity, Reference, Meant, meant_common, meant_entity}
use Rattle.cedar_schema_model.specs.Declarations.{TypeExpr, bool_expr, long_expr, string_expr, set_expr, record_expr, reference, extension_expr, FieldExprs, no_field_exprs, field_expr, CommonDeclaration, KindExpr, standard_expr, enumerated_expr, external_expr, EntityDeclaration, ActionDeclaration, Declarations, common_name, entity_name, action_uid, common_names, meant, parent_meant}
use Rattle.cedar_schema_model.specs.WellFormed.{duplicate_entity_type, duplicate_common_type, duplicate_action, IsWellFormed}
use Rattle.cedar_schema_model.proofs.Named.{defined_by}
use Rattle.cedar_schema_model.specs.Resolved.{with_attribute, type_meant, resolved_by, resolved_fields_by, common_within, common_of, resolved, entity_of, entity_meant, resolved_kind, resolved_entity, attributes_of_record, resolved_action, schema_of}
use Rattle.cedar_schema_model.specs.BagLaws.{IsReordered, HasTwice}
use Rattle.cedar_schema_model.proofs.Decls.Reordered.{same_meant, same_parent}
use Rattle.cedar_schema_model.proofs.Decls.Schema.{same_types, same_actions}
use Rattle.cedar_schema_model.proofs.Decls.Faults.{no_schema_fault}

-- the first that passes is one of them, and passes
abbrev Passing : {X : Type 0} → (X → Bool) → List X → X → Type 0
Passing p xs x = Contains xs x × (p x ≡ true)

passing_step : {X : Type 0} (p : X → Bool) (y : X) (xs : List X) (x : X) (b : Bool) → p y ≡ b → (find p xs ≡ Some x → Passing p xs x) → (if b then Some y else find p xs) ≡ Some x → Passing p (y ∷ xs) x
passing_step p y xs x true e rest h = let same : y ≡ x = cc in subst (Passing p (y ∷ xs)) same (contains_head y xs, e)
passing_step p y xs x false e rest h = let r = rest h in (contains_tail y xs x r.0, r.1)

passing : {X : Type 0} (p : X → Bool) (xs : List X) (x : X) → find p xs ≡ Some x → Passing p xs x
passing p [] x h = cc
passing p (y ∷ xs) x h = passing_step p y xs x (p y) refl (passing p xs x) h

-- where none is first none passes
none_step : {X : Type 0} (y : X) (b : Bool) (o : Option X) → (if b then Some y else o) ≡ None → (b ≡ true → ⊥) × (o ≡ None)
none_step y true o h = cc
none_step y false o h = (λ e. cc, h)

none_passes : {X : Type 0} (p : X → Bool) (xs : List X) → find p xs ≡ None → (x : X) → Passing p xs x → ⊥
none_passes p [] h x k = contains_none x k.0
none_passes p (y ∷ xs) h x k =
    let s = none_step y (p y) (find p xs) h in
    contains_cases ⊥ y xs x k.0 (λ e. s.0 (ap p e ∙ k.1)) (λ l. none_passes p xs s.1 x (l, k.1))

-- at most one passes
abbrev OnePasses : {X : Type 0} → (X → Bool) → List X → Type 0
OnePasses {X} p xs = (x y : X) → Passing p xs x → Passing p xs y → x ≡ y

moved_passing : {X : Type 0} (p : X → Bool) (xs ys : List X) → IsPermutation xs ys → (x : X) → Passing p xs x → Passing p ys x
moved_passing p xs ys m x h = (Contains-permutation xs ys x m h.0, h.1)

same_first_case : {X : Type 0} (p : X → Bool) (xs ys : List X) → IsPermutation xs ys → OnePasses p xs → (o q : Option X) → find p xs ≡ o → find p ys ≡ q → o ≡ q
same_first_case p xs ys m one None None e f = refl
same_first_case p xs ys m one None (Some y) e f = absurd (none_passes p xs e y (moved_passing p ys xs (IsPermutation-sym xs ys m) y (passing p ys y f)))
same_first_case p xs ys m one (Some x) None e f = absurd (none_passes p ys f x (moved_passing p xs ys m x (passing p xs x e)))
same_first_case p xs ys m one (Some x) (Some y) e f = ap Some (one x y (passing p xs x e) (moved_passing p ys xs (IsPermutation-sym xs ys m) y (passing p ys y f)))

same_first : {X : Type 0} (p : X → Bool) (xs ys : List X) → IsPermutation xs ys → OnePasses p xs → find p xs ≡ find p ys
same_first p xs ys m one = same_first_case p xs ys m one (find p xs) (find p ys) refl refl

-- of things whose keys are told apart one alone has a key
one_of_key : {X K : Type 0} (key : X → K) (xs : List X) → (HasTwice (map key xs) → ⊥) → (x y : X) → Contains xs x → Contains xs y → key x ≡ key y → x ≡ y
one_of_key key [] once x y h k e = absurd (contains_none x h)
one_of_key key (z ∷ xs) once x y h k e =
    contains_cases (x ≡ y) z xs x h
    (λ f. contains_cases (x ≡ y) z xs y k (λ g. sym f ∙ g)
    (λ g. absurd (once (inl (subst (Contains (map key xs)) (sym e ∙ ap key (sym f)) (map_has key xs y g))))))
    (λ f. contains_cases (x ≡ y) z xs y k
    (λ g. absurd (once (inl (subst (Contains (map key xs)) (e ∙ ap key (sym g)) (map_has key xs x f)))))
    (λ g. one_of_key key xs (λ t. once (inr t)) x y f g e))

one_passes : {X K : Type 0} (key : X → K) (eq : K → K → Bool) → ((a b : K) → Decides (eq a b) (a ≡ b)) → (xs : List X) → (HasTwice (map key xs) → ⊥) → (k : K) → OnePasses (λ x. eq k (key x)) xs
one_passes key eq each xs once k x y h i = one_of_key key xs once x y h.0 i.0 (sym ((each k (key x)).0 h.1) ∙ (each k (key y)).0 i.1)

-- filters with maps, and maps, that agree
map_agree : {X Y : Type 0} (f g : X → Y) → ((x : X) → f x ≡ g x) → (xs : List X) → map f xs ≡ map g xs
map_agree f g e [] = refl
map_agree f g e (x ∷ xs) = ap (λ y. y ∷ map f xs) (e x) ∙ ap (λ l. g x ∷ l) (map_agree f g e xs)

kept_agree : {X Y : Type 0} (f g : X → Option Y) → ((x : X) → f x ≡ g x) → (xs : List X) → filter_map f xs ≡ filter_map g xs
kept_agree f g e [] = refl
kept_agree f g e (x ∷ xs) = ap (λ o. cons_option o (filter_map f xs)) (e x) ∙ ap (cons_option (g x)) (kept_agree f g e xs)

meant_agree : (f g : Name → Ty) → ((n : Name) → f n ≡ g n) → (o : Option Meant) → type_meant f o ≡ type_meant g o
meant_agree f g e None = refl
meant_agree f g e (Some (meant_common n)) = e n
meant_agree f g e (Some (meant_entity n)) = refl

module _ (d e : Declarations) (m : IsReordered d e) (f g : Name → Ty) (same : (n : Name) → f n ≡ g n) where
  mutual
    pub across : (ns : Namespace) (t : TypeExpr) → resolved_by f d ns t ≡ resolved_by g e ns t
    across ns bool_expr = refl
    across ns long_expr = refl
    across ns string_expr = refl
    across ns (set_expr t) = ap set_type (across ns t)
    across ns (record_expr fs) = ap (λ as_. record_type as_ is_closed) (fields_across ns fs)
    across ns (reference k n) =
        let r : Reference = record { namespace = ns; kind = k; name = n } in
        meant_agree f g same (meant d r) ∙ ap (type_meant g) (same_meant d e m r)
    across ns (extension_expr n) = refl

    pub fields_across : (ns : Namespace) (fs : FieldExprs) → resolved_fields_by f d ns fs ≡ resolved_fields_by g e ns fs
    fields_across ns no_field_exprs = refl
    fields_across ns (field_expr a t r fs) =
        ap (λ u. with_attribute a u r (resolved_fields_by f d ns fs)) (across ns t) ∙ ap (with_attribute a (resolved_by g e ns t) r) (fields_across ns fs)

module _ (d e : Declarations) (m : IsReordered d e) (once : HasTwice (common_names d) → ⊥) where
  same_common : (n : Name) → find (λ (x : CommonDeclaration). name_eq n (common_name x)) d.commons ≡ find (λ (x : CommonDeclaration). name_eq n (common_name x)) e.commons
  same_common n =
      same_first (λ c. name_eq n (common_name c)) d.commons e.commons m.commons (one_passes common_name name_eq name_eq-Decides d.commons once n)

  defined_across : (f g : Name → Ty) → ((n : Name) → f n ≡ g n) → (o : Option CommonDeclaration) → defined_by f d o ≡ defined_by g e o
  defined_across f g same None = refl
  defined_across f g same (Some c) = across d e m f g same c.namespace c.definition

  same_within : (k : ℕ) (n : Name) → common_within k d n ≡ common_within k e n
  same_within zero n = refl
  same_within (suc k) n =
      defined_across (common_within k d) (common_within k e) (same_within k) (find (λ (x : CommonDeclaration). name_eq n (common_name x)) d.commons)
      ∙ ap (defined_by (common_within k e) e) (same_common n)

  same_of : (n : Name) → common_of d n ≡ common_of e n
  same_of n = same_within (length d.commons) n ∙ ap (λ k. common_within k e n) (sym (length_permutation d.commons e.commons m.commons))

  same_resolved : (ns : Namespace) (t : TypeExpr) → resolved d ns t ≡ resolved e ns t
  same_resolved ns t = across d e m (common_of d) (common_of e) same_of ns t

  same_entity : (ns : Namespace) (n : Name) → entity_meant d ns n ≡ entity_meant e ns n
  same_entity ns n = ap entity_of (same_meant d e m (record { namespace = ns; kind = to_entity; name = n }))

  same_tags : (ns : Namespace) (t : Option TypeExpr) → option_map (resolved d ns) t ≡ option_map (resolved e ns) t
  same_tags ns None = refl
  same_tags ns (Some t) = ap Some (same_resolved ns t)

  same_kind : (ns : Namespace) (k : KindExpr) → resolved_kind d ns k ≡ resolved_kind e ns k
  same_kind ns (standard_expr fs t) =
      ap (λ as_. standard as_ (option_map (resolved d ns) t)) (fields_across d e m (common_of d) (common_of e) same_of ns fs) ∙ ap (standard (resolved_fields_by (common_of e) e ns fs)) (same_tags ns t)
  same_kind ns (enumerated_expr ids) = refl
  same_kind ns external_expr = refl

  pub same_type : (t : EntityDeclaration) → resolved_entity d t ≡ resolved_entity e t
  same_type t = λ i. record {
    name = entity_name t;
    parents = kept_agree (entity_meant d t.namespace) (entity_meant e t.namespace) (same_entity t.namespace) t.parents i;
    kind = same_kind t.namespace t.kind i;
  }

  pub same_action : (a : ActionDeclaration) → resolved_action d a ≡ resolved_action e a
  same_action a = λ i. record {
    uid = action_uid a;
    parents = kept_agree (parent_meant d a.namespace) (parent_meant e a.namespace) (same_parent d e m a.namespace) a.parents i;
    principals = kept_agree (entity_meant d a.namespace) (entity_meant e a.namespace) (same_entity a.namespace) a.principals i;
    resources = kept_agree (entity_meant d a.namespace) (entity_meant e a.namespace) (same_entity a.namespace) a.resources i;
    context = attributes_of_record (same_resolved a.namespace a.context i);
    is_external = a.is_external;
  }

pub same_types_found : (x : List Name) (d e : Declarations) → IsReordered d e → IsWellFormed x d → (n : Name) → type_named (schema_of d) n ≡ type_named (schema_of e) n
same_types_found x d e m w n =
    let once = no_schema_fault x d w duplicate_common_type (1, omega arith, refl) in
    let types = (schema_of d).types in
    let apart : HasTwice (map (λ (t : EntityType). t.name) types) → ⊥ = λ t. no_schema_fault x d w duplicate_entity_type (0, omega arith, refl) (subst HasTwice (same_types d) t) in
    same_first (λ t. name_eq n t.name) types (map (resolved_entity d) e.entities) (IsPermutation-map (resolved_entity d) d.entities e.entities m.entities) (one_passes (λ (t : EntityType). t.name) name_eq name_eq-Decides types apart n)
    ∙ ap (find (λ (t : EntityType). name_eq n t.name)) (map_agree (resolved_entity d) (resolved_entity e) (same_type d e m once) e.entities)

pub same_actions_found : (x : List Name) (d e : Declarations) → IsReordered d e → IsWellFormed x d → (u : Uid) → action_with (schema_of d) u ≡ action_with (schema_of e) u
same_actions_found x d e m w u =
    let once = no_schema_fault x d w duplicate_common_type (1, omega arith, refl) in
    let actions = (schema_of d).actions in
    let apart : HasTwice (map (λ (a : Action). a.uid) actions) → ⊥ = λ t. no_schema_fault x d w duplicate_action (2, omega arith, refl) (subst HasTwice (same_actions d) t) in
    same_first (λ a. uid_eq u a.uid) actions (map (resolved_action d) e.actions) (IsPermutation-map (resolved_action d) d.actions e.actions m.actions) (one_passes (λ (a : Action). a.uid) uid_eq uid_eq-Decides actions apart u)
    ∙ ap (find (λ (a : Action). uid_eq u a.uid)) (map_agree (resolved_action d) (resolved_action e) (same_action d e m once) e.actions)

-- its types and actions are the same, in another order
pub types_moved : (x : List Name) (d e : Declarations) → IsReordered d e → IsWellFormed x d → IsPermutation (schema_of d).types (schema_of e).types
types_moved x d e m w =
    let once = no_schema_fault x d w duplicate_common_type (1, omega arith, refl) in
    subst (IsPermutation (schema_of d).types) (map_agree (resolved_entity d) (resolved_entity e) (same_type d e m once) e.entities) (IsPermutation-map (resolved_entity d) d.entities e.entities m.entities)

pub actions_moved : (x : List Name) (d e : Declarations) → IsReordered d e → IsWellFormed x d → IsPermutation (schema_of d).actions (schema_of e).actions
actions_moved x d e m w =
    let once = no_schema_fault x d w duplicate_common_type (1, omega arith, refl) in
    subst (IsPermutation (schema_of d).actions) (map_agree (resolved_action d) (resolved_action e) (same_action d e m once) e.actions) (IsPermutation-map (resolved_action d) d.actions e.actions m.actions)
