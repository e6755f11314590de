-- How near the entities lie that attributes, tags and paths lead to.
use Rattle.std.proofs.Common.{◌≡◌, ◌≤◌, ◌+◌, ◌⊎◌, inl, inr, ⊎_elim, ℕ, suc, arith, true, false, List, [], ◌∷◌, Option, Some, None, refl, sym, ap, ◌∙◌, subst}
use Rattle.std.specs.Prelude.{is_some, option_map, option_and_then, if◌then◌else◌}
use Rattle.cedar_expr_model.specs.Name.{Text}
use Rattle.cedar_expr_model.specs.Uid.{Uid}
use Rattle.cedar_expr_model.specs.Table.{Table}
use Rattle.cedar_expr_model.specs.Tree.{Tree, get_attr}
use Rattle.cedar_expr_model.specs.Value.{text, entity, V, prim, field_of}
use Rattle.cedar_store_model.specs.Outcome.{val}
use Rattle.cedar_store_model.specs.World.{World, Entity, Found, held, missing, not_loaded}
use Rattle.cedar_expr_model.specs.ValueParts.{known}
use Rattle.cedar_store_model.specs.Reads.{part_read, attribute_read}
use Rattle.cedar_store_model.proofs.Named.{attributes_of, tag_read, tags_of}
use Rattle.cedar_store_model.specs.Looks.{PathLooks}
use Rattle.cedar_schema_model.specs.Types.{Ty, any_entity, entity_types, record_type, Declared}
use Rattle.cedar_schema_model.specs.Schema.{EntityType, Schema, type_named, declares_action}
use Rattle.cedar_schema_model.specs.Environment.{Environment}
use Rattle.cedar_schema_model.specs.Lookup.{lookup_attribute}
use Rattle.cedar_schema_model.specs.HasType.{HasType}
use Rattle.cedar_schema_model.specs.Conforming.{EntityConforms}
use Rattle.cedar_schema_model.proofs.Types.Lookups.{test_cases}
use Rattle.cedar_typechecker_model.specs.Facts.{Facts}
use Rattle.cedar_typechecker_model.specs.Levels.{is_entity, entity_steps, fields_before}
use Rattle.cedar_typechecker_model.specs.OfLaws.Simple.{is_simple}
use Rattle.cedar_typechecker_model.specs.Soundness.{ConformsAt, Suits}
use Rattle.cedar_typechecker_model.specs.Typing.{step_type, path_judged, Gives}
use Rattle.cedar_typechecker_model.specs.Verdicts.{strictly}
use Rattle.cedar_typechecker_model.proofs.Sound.Attributes.{one_kind, field_is, part_is}
use Rattle.cedar_typechecker_model.proofs.Sound.Entities.{held_attribute, held_tag}
use Rattle.cedar_typechecker_model.proofs.Sound.Leading.{At, Stands, stands_itself, stands_within, at_entity, entity_typed}
use Rattle.cedar_typechecker_model.proofs.Sound.Shapes.{any_value, entity_value, record_value}
use Rattle.cedar_typechecker_model.proofs.Sound.Steps.{goes_onward}
use Rattle.cedar_typechecker_model.proofs.Named.{one_if}
use Rattle.std.specs.Map.{lookup}
use Rattle.std.specs.Str.{bytes_eq}

-- What is near: the entities of the request, and one step further what stands in an attribute or a tag of what is near.
pub record Nearness (w : World) (Near : ℕ → Uid → Type 0) : Type 0 where
  pub principal : (u : Uid) → w.principal ≡ Some u → Near 1 u
  pub resource : (u : Uid) → w.resource ≡ Some u → Near 1 u
  pub context : (v : V) (u : Uid) → w.context ≡ Some v → Stands v u → Near 1 u
  pub attribute : (k : ℕ) (y : Uid) (d : Entity V) (a : Text) (v : V) (u : Uid) → Near k y → w.store y ≡ held d → lookup (bytes_eq a) d.attributes ≡ Some (known v) → Stands v u → Near (suc k) u
  pub tag : (k : ℕ) (y : Uid) (d : Entity V) (a : Text) (v : V) (u : Uid) → Near k y → w.store y ≡ held d → lookup (bytes_eq a) d.tags ≡ Some (known v) → Stands v u → Near (suc k) u
  pub more : (m n : ℕ) (u : Uid) → m ≤ n → Near m u → Near n u

-- near, or a declared action
abbrev pub Reached : Schema → (ℕ → Uid → Type 0) → ℕ → Uid → Type 0
Reached s Near k u = Near k u ⊎ (declares_action s u ≡ true)

-- a declared action has neither attributes nor tags
nothing_declared : {A : Type 0} (o : Option EntityType) (f : EntityType → Option A) (a : A) → is_some o ≡ false → option_and_then f o ≡ Some a → ⊥
nothing_declared None f a e h = cc
nothing_declared (Some t) f a e h = cc

module _ (s : Schema) (x : Table) (e : Environment) (w : World) (suits : Suits s x e w) (Near : ℕ → Uid → Type 0) (near : Nearness w Near) where
  pub reached_more : (m n : ℕ) (u : Uid) → m ≤ n → Reached s Near m u → Reached s Near n u
  reached_more m n u l h = ⊎_elim (λ k. inl (near.more m n u l k)) (λ k. inr k) h

  action_conforms : (u : Uid) → declares_action s u ≡ true → (d : Entity V) → w.store u ≡ held d → EntityConforms s u d
  action_conforms u h d q =
      let k = suits.actions u h in
      let p : k.0 ≡ d = (let z : held k.0 ≡ held d = sym k.1 ∙ q in cc) in
      subst (EntityConforms s u) p k.2

  pub conform_at : (n : ℕ) → ((u : Uid) → Near n u → declares_action s u ≡ false → ConformsAt s w u) → (u : Uid) → Reached s Near n u → ConformsAt s w u
  conform_at n c u h = test_cases (declares_action s u) (λ e. action_conforms u e) (λ e. ⊎_elim (λ k. c u k e) (λ k. absurd (clash e k)) h)
    where
      clash : declares_action s u ≡ false → declares_action s u ≡ true → ⊥
      clash p q = cc

  -- what stands in an attribute is one step further
  found_attribute : (k : ℕ) (y : Uid) (f : Found V) (a : Text) (v : V) (u : Uid) → Reached s Near k y → w.store y ≡ f → part_read attributes_of y a f ≡ Some (val v) → Stands v u → Reached s Near (suc k) u
  found_attribute k y (held d) a v u (inl h) q r l = inl (near.attribute k y d a v u h q (part_is (lookup (bytes_eq a) d.attributes) v r) l)
  found_attribute k y (held d) a v u (inr h) q r l =
      let i = held_attribute s suits.schema y d (action_conforms y h d q) a (known v) (part_is (lookup (bytes_eq a) d.attributes) v r) in
      absurd (nothing_declared (type_named s y.kind) _ i.what (suits.schema.apart y h) i.is_what)
  found_attribute k y missing a v u h q r l = cc
  found_attribute k y not_loaded a v u h q r l = cc

  pub attribute_reached : (k : ℕ) (y : Uid) (a : Text) (v : V) (u : Uid) → Reached s Near k y → attribute_read w a (prim (entity y)) ≡ Some (val v) → Stands v u → Reached s Near (suc k) u
  attribute_reached k y a v u h r l = found_attribute k y (w.store y) a v u h refl r l

  found_tag : (k : ℕ) (y : Uid) (f : Found V) (a : Text) (v : V) (u : Uid) → Reached s Near k y → w.store y ≡ f → part_read tags_of y a f ≡ Some (val v) → Stands v u → Reached s Near (suc k) u
  found_tag k y (held d) a v u (inl h) q r l = inl (near.tag k y d a v u h q (part_is (lookup (bytes_eq a) d.tags) v r) l)
  found_tag k y (held d) a v u (inr h) q r l =
      let i = held_tag s suits.schema y d (action_conforms y h d q) a (known v) (part_is (lookup (bytes_eq a) d.tags) v r) in
      absurd (nothing_declared (type_named s y.kind) _ i.what (suits.schema.apart y h) i.is_what)
  found_tag k y missing a v u h q r l = cc
  found_tag k y not_loaded a v u h q r l = cc

  pub tag_reached : (k : ℕ) (y : Uid) (a : Text) (v : V) (u : Uid) → Reached s Near k y → tag_read w (prim (entity y)) (prim (text a)) ≡ Some (val v) → Stands v u → Reached s Near (suc k) u
  tag_reached k y a v u h r l = found_tag k y (w.store y) a v u h refl r l

  -- the entities that a path looks up, from a value in which all is reached
  module _ (n : ℕ) (c : (u : Uid) → Near n u → declares_action s u ≡ false → ConformsAt s w u) where
    entity_step : (t : Ty) (j r : ℕ) → is_entity (Some t) ≡ true → j + (one_if (is_entity (Some t)) + r) ≤ n → suc j + r ≤ n
    entity_step t j r e h = let k : j + (1 + r) ≤ n = subst (λ b. j + (one_if b + r) ≤ n) e h in omega (arith, k)

    here : (t : Ty) (j r : ℕ) (v : V) (u : Uid) → HasType v t → ((y : Uid) → Stands v y → Reached s Near (suc j) y) → j + (one_if (is_entity (Some t)) + r) ≤ n → v ≡ prim (entity u) → Reached s Near n u
    here t j r v u h f l q =
        let e = entity_typed t u (subst (λ z. HasType z t) q h) in
        let k = entity_step t j r e l in
        reached_more (suc j) n u (omega (arith, k)) (f u (subst (λ z. Stands z u) (sym q) (stands_itself u)))

    one_more : (t : Ty) (r : ℕ) (o : ℕ) → r ≡ o → one_if (is_entity (Some t)) + r ≡ one_if (is_entity (Some t)) + o
    one_more t r o q = ap (λ z. one_if (is_entity (Some t)) + z) q

    -- what stands in the next value of a path, and how far it is
    next_value : (t : Ty) (a : Text) (d : Declared) (v y : V) (j r : ℕ) → is_simple t ≡ true → HasType v t → lookup_attribute s t a ≡ Some d → attribute_read w a v ≡ Some (val y) → ((u : Uid) → Stands v u → Reached s Near (suc j) u)
        → j + (one_if (is_entity (Some t)) + r) ≤ n → (i : ℕ) × ((u : Uid) → Stands y u → Reached s Near (suc i) u) × (i + r ≤ n)
    next_value (record_type as_ p) a d v y j r z h q g f l =
        let k = record_value as_ p v h in
        let i : field_of a k.0 ≡ Some y = field_is (field_of a k.0) y (subst (λ o. attribute_read w a o ≡ Some (val y)) k.1 g) in
        (j, λ u m. f u (subst (λ o. Stands o u) (sym k.1) (stands_within a k.0 y u i m)), omega (arith, l))
    next_value (entity_types (n0 ∷ [])) a d v y j r z h q g f l =
        let k = one_kind n0 v h in
        let i : attribute_read w a (prim (entity k.0)) ≡ Some (val y) = subst (λ o. attribute_read w a o ≡ Some (val y)) k.1 g in
        (suc j, λ u m. attribute_reached (suc j) k.0 a y u (f k.0 (subst (λ o. Stands o k.0) (sym k.1) (stands_itself k.0))) i m, omega (arith, l))
    next_value (entity_types []) a d v y j r z h q g f l = cc
    next_value (entity_types (n0 ∷ m ∷ ns)) a d v y j r z h q g f l = cc
    next_value t a d v y j r z h q g f l = cc

    steps_onward : (m : Text) (bs : List Text) (t : Ty) (a : Text) (d : Declared) → lookup_attribute s t a ≡ Some d → entity_steps (strictly s x e) m bs (step_type (strictly s x e) t a) ≡ entity_steps (strictly s x e) m bs (Some d.type)
    steps_onward m bs t a d q = ap (λ o. entity_steps (strictly s x e) m bs (option_map (λ (k : Declared). k.type) o)) q

    pub path_reached : (bs : List Text) (a : Text) (b : Tree) (t : Ty) (v : V) (j : ℕ) → is_simple t ≡ true → HasType v t → ((y : Uid) → Stands v y → Reached s Near (suc j) y) → j + entity_steps (strictly s x e) a bs (Some t) ≤ n
        → (ty : Ty) (out : Facts) → Gives (path_judged (strictly s x e) a bs b t) ty out → (u : Uid) → PathLooks w a bs v u → Reached s Near n u
    path_reached [] a b t v j z h f l ty out d u q = here t j 0 v u h f (let k : one_if (is_entity (Some t)) + 0 ≡ one_if (is_entity (Some t)) = omega arith in subst (λ i. j + i ≤ n) (sym k) l) q
    path_reached (m ∷ bs) a b t v j z h f l ty out d u (inl q) = here t j (entity_steps (strictly s x e) m bs (step_type (strictly s x e) t a)) v u h f l q
    path_reached (m ∷ bs) a b t v j z h f l ty out d u (inr (y, g, q)) =
        let rest = entity_steps (strictly s x e) m bs (step_type (strictly s x e) t a) in
        let o = goes_onward (strictly s x e) suits.schema w a m bs b t v y z h (λ u0 q0. conform_at n c u0 (here t j rest v u0 h f l q0)) g ty out d in
        let k = next_value t a o.what v y j rest z h o.declared g f l in
        path_reached bs m (get_attr b a) o.what.type y k.0 o.is_simple o.of_type k.1 (subst (λ i. k.0 + i ≤ n) (steps_onward m bs t a o.what o.declared) k.2) o.type o.facts o.typed u q

    -- A path has no entity, or its first entity is reached, and its steps on entities are no more than are left.
    abbrev Begins : Text → List Text → Ty → V → ℕ → Type 0
    Begins a bs t v j = (entity_steps (strictly s x e) a bs (Some t) ≡ 0) ⊎ (((u : Uid) → At (fields_before (strictly s x e) a bs (Some t)) v u → Reached s Near (suc j) u) × (j + entity_steps (strictly s x e) a bs (Some t) ≤ n))

    not_entity : (t : Ty) (v : V) (u : Uid) → is_entity (Some t) ≡ false → HasType v t → v ≡ prim (entity u) → ⊥
    not_entity t v u e h q = let k = entity_typed t u (subst (λ z. HasType z t) q h) in cc

    before_entity : (a : Text) (bs : List Text) (t : Ty) → is_entity (Some t) ≡ true → fields_before (strictly s x e) a bs (Some t) ≡ []
    before_entity a [] t k = ap (λ c. if c then [] else a ∷ []) k
    before_entity a (m ∷ bs) t k = ap (λ c. if c then [] else a ∷ fields_before (strictly s x e) m bs (step_type (strictly s x e) t a)) k

    some_steps : (a : Text) (bs : List Text) (t : Ty) → is_entity (Some t) ≡ true → entity_steps (strictly s x e) a bs (Some t) ≡ 0 → ⊥
    some_steps a [] t k q = let r : one_if (is_entity (Some t)) ≡ 1 = ap one_if k in cc
    some_steps a (m ∷ bs) t k q =
        let r : 1 + entity_steps (strictly s x e) m bs (step_type (strictly s x e) t a) ≡ 0 = subst (λ c. one_if c + entity_steps (strictly s x e) m bs (step_type (strictly s x e) t a) ≡ 0) k q in
        omega (arith, r)

    -- the value is an entity, and it is reached
    entity_begins : (a : Text) (bs : List Text) (t : Ty) (v : V) (j : ℕ) → is_entity (Some t) ≡ true → is_simple t ≡ true → HasType v t → Begins a bs t v j
        → ((y : Uid) → Stands v y → Reached s Near (suc j) y) × (j + entity_steps (strictly s x e) a bs (Some t) ≤ n)
    entity_begins a bs t v j k z h (inl q) = absurd (some_steps a bs t k q)
    entity_begins a bs t v j k z h (inr (f, l)) = (λ y m. f y (subst (λ p. At p v y) (sym (before_entity a bs t k)) (alone t k z h y m)), l)
      where
        alone : (t : Ty) → is_entity (Some t) ≡ true → is_simple t ≡ true → HasType v t → (y : Uid) → Stands v y → v ≡ prim (entity y)
        alone any_entity k z h y m = let i = any_value v h in i.1 ∙ ap (λ o. prim (entity o)) (at_entity i.0 m.0 y (subst (λ o. At m.0 o y) i.1 m.1))
        alone (entity_types ns) k z h y m = let i = entity_value ns v h in i.1 ∙ ap (λ o. prim (entity o)) (at_entity i.0 m.0 y (subst (λ o. At m.0 o y) i.1 m.1))
        alone t k z h y m = cc

    -- the next value of a record, where nothing is counted
    field_begins : (t : Ty) (a m : Text) (bs : List Text) (d : Declared) (v y : V) (j : ℕ) → is_entity (Some t) ≡ false → HasType v t → lookup_attribute s t a ≡ Some d → attribute_read w a v ≡ Some (val y) → Begins a (m ∷ bs) t v j → Begins m bs d.type y j
    field_begins (record_type as_ p) a m bs d v y j k h q g (inl r) = inl (sym (steps_onward m bs (record_type as_ p) a d q) ∙ (let i : 0 + entity_steps (strictly s x e) m bs (step_type (strictly s x e) (record_type as_ p) a) ≡ 0 = r in omega (arith, i)))
    field_begins (record_type as_ p) a m bs d v y j k h q g (inr (f, l)) =
        let o = record_value as_ p v h in
        let i : field_of a o.0 ≡ Some y = field_is (field_of a o.0) y (subst (λ c. attribute_read w a c ≡ Some (val y)) o.1 g) in
        let r : j + (0 + entity_steps (strictly s x e) m bs (step_type (strictly s x e) (record_type as_ p) a)) ≤ n = l in
        inr (
          λ u b. f u (o.0, o.1, (y, i, subst (λ c. At (fields_before (strictly s x e) m bs (option_map (λ (z : Declared). z.type) c)) y u) (sym q) b)),
          subst (λ c. j + c ≤ n) (steps_onward m bs (record_type as_ p) a d q) (omega (arith, r)),
        )
    field_begins (entity_types ns) a m bs d v y j k h q g f = cc
    field_begins t a m bs d v y j k h q g f = cc

    pub path_begins : (bs : List Text) (a : Text) (b : Tree) (t : Ty) (v : V) (j : ℕ) → is_simple t ≡ true → HasType v t → Begins a bs t v j
        → (ty : Ty) (out : Facts) → Gives (path_judged (strictly s x e) a bs b t) ty out → (u : Uid) → PathLooks w a bs v u → Reached s Near n u
    path_begins [] a b t v j z h f ty out d u q =
        test_cases (is_entity (Some t))
        (λ k. let i = entity_begins a [] t v j k z h f in path_reached [] a b t v j z h i.0 i.1 ty out d u q)
        (λ k. absurd (not_entity t v u k h q))
    path_begins (m ∷ bs) a b t v j z h f ty out d u (inl q) =
        test_cases (is_entity (Some t))
        (λ k. let i = entity_begins a (m ∷ bs) t v j k z h f in path_reached (m ∷ bs) a b t v j z h i.0 i.1 ty out d u (inl q))
        (λ k. absurd (not_entity t v u k h q))
    path_begins (m ∷ bs) a b t v j z h f ty out d u (inr (y, g, q)) =
        test_cases (is_entity (Some t))
        (λ k. let i = entity_begins a (m ∷ bs) t v j k z h f in path_reached (m ∷ bs) a b t v j z h i.0 i.1 ty out d u (inr (y, g, q)))
        (λ k. (let o = goes_onward (strictly s x e) suits.schema w a m bs b t v y z h (λ u0 q0. absurd (not_entity t v u0 k h q0)) g ty out d in
        path_begins bs m (get_attr b a) o.what.type y j o.is_simple o.of_type (field_begins t a m bs o.what v y j k h o.declared g f) o.type o.facts o.typed u q))
