-- The tests of declarations decide which faults are there.
use Rattle.std.proofs.Common.{◌≡◌, ◌↔◌, List, [], ◌∷◌, Bool, true, false, not, ◌&&◌, Option, Some, None, refl, sym, ap, ◌∙◌, subst, inl, inr, ⊎_elim, ◌||◌}
use Rattle.std.specs.Prelude.{Contains, is_some, if◌then◌else◌, find}
use Rattle.std.specs.Bool.{Decides}
use Rattle.std.specs.List.{list_any}
use Rattle.std.specs.Str.{bytes_eq}
use Rattle.std.proofs.lemmas.Bool.Decides.{Decides-and, Decides-or, Decides-not, Decides-like}
use Rattle.std.proofs.lemmas.Slice.Eq.{bytes_eq-Decides}
use Rattle.cedar_expr_model.specs.Name.{Name, name_eq, is_reserved}
use Rattle.cedar_expr_model.specs.Uid.{Uid, uid_eq}
use Rattle.cedar_expr_model.proofs.Equality.{name_eq-Decides, uid_eq-Decides}
use Rattle.cedar_expr_model.proofs.Lists.{found-Decides, any-Decides, all-Decides, map_has}
use Rattle.cedar_schema_model.specs.Descent.{Reaches, reaches}
use Rattle.cedar_schema_model.specs.Reference.{Namespace, action_word, Reference, Meant, meant_common, meant_entity, candidates, action_candidates}
use Rattle.cedar_schema_model.specs.Declarations.{Declarations, common_name, action_uid, common_names, entity_names, action_uids, is_declared, is_declared_action, meant, parent_meant, references_of_common, references, extensions}
use Rattle.cedar_schema_model.specs.WellFormed.{SchemaFault, duplicate_entity_type, duplicate_common_type, duplicate_action, undeclared_type, undeclared_action, cycle_of_common_types, cycle_of_actions, action_as_entity_type, context_not_record, reserved_name, shadowing, unknown_extension_type, unresolved_external, ill_forms, is_common, uses, has_parent_action, becomes_record, written_names, unqualified_uid, declared_types, shadows, is_external_kind, has_schema_fault, IsWellFormed, well_formed}
use Rattle.cedar_schema_model.proofs.Decls.Descent.{reaches-Decides, Covers, chain_starts}
use Rattle.cedar_schema_model.proofs.Decls.Conforming.{not_false, is_none-Decides, is_true-Decides, none_there, is_lacking}
use Rattle.cedar_schema_model.specs.BagLaws.{IsFirst, Uses, HasParentAction, Shadows, HasSchemaFault, HasTwice}
use Rattle.cedar_expr_model.specs.Names.{unqualified}
use Rattle.std.specs.Option.{option_eq}
use Rattle.cedar_schema_model.proofs.Named.{is_qualified}
use Rattle.cedar_expr_model.specs.Repeats.{repeated}
use Rattle.cedar_expr_model.specs.ListLaws.{AreDistinct}
use Rattle.cedar_expr_model.proofs.Repeating.{repeats_decide}

-- the first that passes
first_step : {X : Type 0} (test : X → Bool) (x : X) (xs : List X) (y : X) (b : Bool) → test x ≡ b → (find test xs ≡ Some y → IsFirst test xs y) → (if b then Some x else find test xs) ≡ Some y → IsFirst test (x ∷ xs) y
first_step test x xs y true e rest h = inl (e, cc)
first_step test x xs y false e rest h = inr (e, rest h)

pub first_is : {X : Type 0} (test : X → Bool) (xs : List X) (y : X) → find test xs ≡ Some y → IsFirst test xs y
first_is test [] y h = cc
first_is test (x ∷ xs) y h = first_step test x xs y (test x) refl (first_is test xs y) h

back_step : {X : Type 0} (test : X → Bool) (x : X) (xs : List X) (y : X) (b : Bool) → test x ≡ b → (IsFirst test xs y → find test xs ≡ Some y) → IsFirst test (x ∷ xs) y → (if b then Some x else find test xs) ≡ Some y
back_step test x xs y true e rest h = ⊎_elim (λ k. ap Some (sym k.1)) (λ k. let f = k.0 in cc) h
back_step test x xs y false e rest h = ⊎_elim (λ k. let f = k.0 in cc) (λ k. rest k.1) h

pub is_first : {X : Type 0} (test : X → Bool) (xs : List X) (y : X) → IsFirst test xs y → find test xs ≡ Some y
is_first test [] y h = absurd h
is_first test (x ∷ xs) y h = back_step test x xs y (test x) refl (is_first test xs y) h

pub first_passes : {X : Type 0} (test : X → Bool) (xs : List X) (y : X) → IsFirst test xs y → test y ≡ true
first_passes test [] y h = absurd h
first_passes test (x ∷ xs) y h = ⊎_elim (λ k. ap test k.1 ∙ k.0) (λ k. first_passes test xs y k.1) h

pub meant_is_first : (d : Declarations) (r : Reference) (m : Meant) → (meant d r ≡ Some m) ↔ IsFirst (is_declared d) (candidates r) m
meant_is_first d r m = (first_is (is_declared d) (candidates r) m, is_first (is_declared d) (candidates r) m)

pub meant_is_declared : (d : Declarations) (r : Reference) (m : Meant) → meant d r ≡ Some m → is_declared d m ≡ true
meant_is_declared d r m h = first_passes (is_declared d) (candidates r) m (first_is (is_declared d) (candidates r) m h)

pub parent_is_first : (d : Declarations) (ns : Namespace) (u v : Uid) → (parent_meant d ns u ≡ Some v) ↔ IsFirst (is_declared_action d) (action_candidates ns u) v
parent_is_first d ns u v = (first_is (is_declared_action d) (action_candidates ns u) v, is_first (is_declared_action d) (action_candidates ns u) v)

-- repeats
abbrev pub has_twice : {X : Type 0} → (X → X → Bool) → List X → Bool
has_twice eq [] = false
has_twice eq (x ∷ xs) = list_any (eq x) xs || has_twice eq xs

pub has_twice-Decides : {X : Type 0} (eq : X → X → Bool) → ((x y : X) → Decides (eq x y) (x ≡ y)) → (xs : List X) → Decides (has_twice eq xs) (HasTwice xs)
has_twice-Decides eq each [] = (λ h. cc, λ h. absurd h)
has_twice-Decides eq each (x ∷ xs) = Decides-or _ _ (found-Decides eq each x xs) (has_twice-Decides eq each xs)

apart_not_twice : {X : Type 0} (xs : List X) → AreDistinct xs → HasTwice xs → ⊥
apart_not_twice [] d h = h
apart_not_twice (x ∷ xs) d h = ⊎_elim d.0 (apart_not_twice xs d.1) h

not_twice_apart : {X : Type 0} (xs : List X) → (HasTwice xs → ⊥) → AreDistinct xs
not_twice_apart [] h = tt
not_twice_apart (x ∷ xs) h = (λ c. h (inl c), not_twice_apart xs (λ k. h (inr k)))

found_case : {X : Type 0} (xs : List X) (o : Option X) (b : Bool) → (o ≡ None) ↔ AreDistinct xs → Decides b (HasTwice xs) → is_some o ≡ b
found_case xs None true apart twice = absurd (apart_not_twice xs (apart.0 refl) (twice.0 refl))
found_case xs None false apart twice = refl
found_case xs (Some x) true apart twice = refl
found_case xs (Some x) false apart twice = let e = apart.1 (not_twice_apart xs (λ h. let k = twice.1 h in cc)) in cc

-- a repetition is found exactly where the recursive test passes
pub repeated_twice : {X : Type 0} (eq : X → X → Bool) → ((x y : X) → Decides (eq x y) (x ≡ y)) → (xs : List X) → is_some (repeated eq xs) ≡ has_twice eq xs
repeated_twice eq each xs = found_case xs (repeated eq xs) (has_twice eq xs) (repeats_decide eq each xs) (has_twice-Decides eq each xs)

pub repeated-Decides : {X : Type 0} (eq : X → X → Bool) → ((x y : X) → Decides (eq x y) (x ≡ y)) → (xs : List X) → Decides (is_some (repeated eq xs)) (HasTwice xs)
repeated-Decides eq each xs = subst (λ b. Decides b (HasTwice xs)) (sym (repeated_twice eq each xs)) (has_twice-Decides eq each xs)

-- what a common type refers to
is_common-Decides : (n : Name) (o : Option Meant) → Decides (is_common n o) (o ≡ Some (meant_common n))
is_common-Decides n (Some (meant_common m)) = Decides-like _ (λ e. ap (λ k. Some (meant_common k)) e) (λ e. cc) (name_eq-Decides m n)
is_common-Decides n (Some (meant_entity m)) = (λ h. cc, λ h. cc)
is_common-Decides n None = (λ h. cc, λ h. cc)

pub uses-Decides : (d : Declarations) (m n : Name) → Decides (uses d m n) (Uses d m n)
uses-Decides d m n =
    Decides-like _ (λ h. (h.0, h.1, h.2.0, h.2.1)) (λ h. (h.0, h.1, (h.2, h.3)))
    (any-Decides (λ c. name_eq m (common_name c) && list_any (λ r. is_common n (meant d r)) (references_of_common c)) (λ c. (m ≡ common_name c) × ((r : Reference) × Contains (references_of_common c) r × (meant d r ≡ Some (meant_common n))))
    (λ c. Decides-and _ _ (name_eq-Decides m (common_name c)) (any-Decides (λ r. is_common n (meant d r)) (λ r. meant d r ≡ Some (meant_common n)) (λ r. is_common-Decides n (meant d r)) (references_of_common c))) d.commons)

commons_cover : (d : Declarations) → Covers (Uses d) (common_names d)
commons_cover d m n h = subst (Contains (common_names d)) (sym h.2) (map_has common_name d.commons h.0 h.1)

is_uid-Decides : (v : Uid) (o : Option Uid) → Decides (option_eq uid_eq o (Some v)) (o ≡ Some v)
is_uid-Decides v None = (λ h. cc, λ h. cc)
is_uid-Decides v (Some u) = Decides-like _ (λ e. ap Some e) (λ e. cc) (uid_eq-Decides u v)

pub has_parent_action-Decides : (d : Declarations) (u v : Uid) → Decides (has_parent_action d u v) (HasParentAction d u v)
has_parent_action-Decides d u v =
    Decides-like _ (λ h. (h.0, h.1, h.2.0, h.2.1)) (λ h. (h.0, h.1, (h.2, h.3)))
    (any-Decides (λ a. uid_eq u (action_uid a) && list_any (λ w. option_eq uid_eq (parent_meant d a.namespace w) (Some v)) a.parents) (λ a. (u ≡ action_uid a) × ((w : Uid) × Contains a.parents w × (parent_meant d a.namespace w ≡ Some v)))
    (λ a. Decides-and _ _ (uid_eq-Decides u (action_uid a)) (any-Decides (λ w. option_eq uid_eq (parent_meant d a.namespace w) (Some v)) (λ w. parent_meant d a.namespace w ≡ Some v) (λ w. is_uid-Decides v (parent_meant d a.namespace w)) a.parents)) d.actions)

actions_cover : (d : Declarations) → Covers (HasParentAction d) (action_uids d)
actions_cover d u v h = subst (Contains (action_uids d)) (sym h.2) (map_has action_uid d.actions h.0 h.1)

-- cycles
cycle-Decides : {X : Type 0} (step : X → X → Type 0) (test : X → X → Bool) → ((x y : X) → Decides (test x y) (step x y)) → (vs : List X) → Covers step vs → Decides (list_any (λ x. reaches test vs x x) vs) ((x : X) × Reaches step x x)
cycle-Decides step test each vs all =
    Decides-like _ (λ h. (h.0, h.2)) (λ h. (h.0, chain_starts step vs all h.0 h.1.0 h.0 h.1.1, h.1))
    (any-Decides (λ x. reaches test vs x x) (λ x. Reaches step x x) (λ x. reaches-Decides step test each vs all x x) vs)

shadows-Decides : (d : Declarations) → Decides (shadows d) (Shadows d)
shadows-Decides d =
    Decides-or _ _
    (Decides-like _ (λ h. (h.0, h.1, h.2.0, h.2.1)) (λ h. (h.0, h.1, (h.2, h.3)))
    (any-Decides (λ n. is_qualified n && list_any (name_eq (unqualified n.base)) (declared_types d)) (λ n. (is_qualified n ≡ true) × Contains (declared_types d) (unqualified n.base))
    (λ n. Decides-and _ _ (is_true-Decides (is_qualified n)) (found-Decides name_eq name_eq-Decides (unqualified n.base) (declared_types d))) (declared_types d)))
    (Decides-like _ (λ h. (h.0, h.1, h.2.0, h.2.1)) (λ h. (h.0, h.1, (h.2, h.3)))
    (any-Decides (λ u. is_qualified u.kind && list_any (uid_eq (unqualified_uid u)) (action_uids d)) (λ u. (is_qualified u.kind ≡ true) × Contains (action_uids d) (unqualified_uid u))
    (λ u. Decides-and _ _ (is_true-Decides (is_qualified u.kind)) (found-Decides uid_eq uid_eq-Decides (unqualified_uid u) (action_uids d))) (action_uids d)))

pub schema_fault-Decides : (x : List Name) (d : Declarations) (f : SchemaFault) → Decides (has_schema_fault x d f) (HasSchemaFault x d f)
schema_fault-Decides x d duplicate_entity_type = repeated-Decides name_eq name_eq-Decides (entity_names d)
schema_fault-Decides x d duplicate_common_type = repeated-Decides name_eq name_eq-Decides (common_names d)
schema_fault-Decides x d duplicate_action = repeated-Decides uid_eq uid_eq-Decides (action_uids d)
schema_fault-Decides x d undeclared_type = any-Decides (λ r. not (is_some (meant d r))) (λ r. meant d r ≡ None) (λ r. is_none-Decides (meant d r)) (references d)
schema_fault-Decides x d undeclared_action =
    any-Decides (λ a. list_any (λ u. not (is_some (parent_meant d a.namespace u))) a.parents) (λ a. (u : Uid) × Contains a.parents u × (parent_meant d a.namespace u ≡ None))
    (λ a. any-Decides (λ u. not (is_some (parent_meant d a.namespace u))) (λ u. parent_meant d a.namespace u ≡ None) (λ u. is_none-Decides (parent_meant d a.namespace u)) a.parents) d.actions
schema_fault-Decides x d cycle_of_common_types = cycle-Decides (Uses d) (uses d) (uses-Decides d) (common_names d) (commons_cover d)
schema_fault-Decides x d cycle_of_actions = cycle-Decides (HasParentAction d) (has_parent_action d) (has_parent_action-Decides d) (action_uids d) (actions_cover d)
schema_fault-Decides x d action_as_entity_type = any-Decides (λ t. bytes_eq action_word t.word) (λ t. action_word ≡ t.word) (λ t. bytes_eq-Decides action_word t.word) d.entities
schema_fault-Decides x d context_not_record = any-Decides (λ a. not (becomes_record d a)) (λ a. becomes_record d a ≡ false) (λ a. not_false (becomes_record d a)) d.actions
schema_fault-Decides x d reserved_name = any-Decides is_reserved (λ n. is_reserved n ≡ true) (λ n. is_true-Decides (is_reserved n)) (written_names d)
schema_fault-Decides x d shadowing = shadows-Decides d
schema_fault-Decides x d unknown_extension_type = any-Decides (λ n. not (list_any (name_eq n) x)) (λ n. Contains x n → ⊥) (λ n. Decides-not _ (found-Decides name_eq name_eq-Decides n x)) (extensions d)
schema_fault-Decides x d unresolved_external =
    Decides-or _ _
    (any-Decides (λ t. is_external_kind t.kind) (λ t. is_external_kind t.kind ≡ true) (λ t. is_true-Decides (is_external_kind t.kind)) d.entities)
    (any-Decides (λ a. a.is_external) (λ a. a.is_external ≡ true) (λ a. is_true-Decides a.is_external) d.actions)

pub well_formed-Decides : (x : List Name) (d : Declarations) → Decides (well_formed x d) (IsWellFormed x d)
well_formed-Decides x d = all-Decides (λ f. not (has_schema_fault x d f)) (λ f. has_schema_fault x d f ≡ false) (λ f. not_false (has_schema_fault x d f)) ill_forms

pub no_schema_fault : (x : List Name) (d : Declarations) → IsWellFormed x d → (f : SchemaFault) → Contains ill_forms f → HasSchemaFault x d f → ⊥
no_schema_fault x d w f k = none_there (has_schema_fault x d f) (schema_fault-Decides x d f) (w f k)

pub where_no_schema_fault : (x : List Name) (d : Declarations) → ((f : SchemaFault) → Contains ill_forms f → HasSchemaFault x d f → ⊥) → IsWellFormed x d
where_no_schema_fault x d h f k = is_lacking (has_schema_fault x d f) (schema_fault-Decides x d f) (h f k)
