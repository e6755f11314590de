-- A tag that may be read has a value of its type, or the entity is missing; and its test says what its type says.
use Rattle.std.proofs.Common.{◌≡◌, ◌&&◌, ◌||◌, Bool, true, false, not, [], ◌∷◌, Option, Some, None, refl, sym, ap, ◌∙◌, subst}
use Rattle.std.specs.Prelude.{is_some, option_map, option_and_then, if◌then◌else◌}
use Rattle.cedar_expr_model.specs.Name.{Text}
use Rattle.cedar_expr_model.specs.Uid.{Uid}
use Rattle.cedar_expr_model.specs.Value.{text, entity, V, prim, truth_value}
use Rattle.cedar_store_model.specs.Outcome.{val}
use Rattle.cedar_store_model.specs.World.{World, Found, held, missing, not_loaded}
use Rattle.cedar_expr_model.specs.ValueParts.{Part, known, left}
use Rattle.cedar_store_model.specs.Operators.{says}
use Rattle.cedar_store_model.specs.Reads.{part_value, part_read, part_tested}
use Rattle.cedar_store_model.proofs.Named.{tag_read, tag_tested, tags_of}
use Rattle.cedar_schema_model.specs.Types.{BoolType, any_bool, only_false, Ty, bool_type, string_type, any_entity, entity_types, permissive}
use Rattle.cedar_schema_model.specs.Schema.{Schema}
use Rattle.cedar_schema_model.specs.Join.{reduce_to_join}
use Rattle.cedar_schema_model.specs.HasType.{HasType}
use Rattle.cedar_schema_model.proofs.Types.Lookups.{inside}
use Rattle.cedar_typechecker_model.specs.Rules.{Setting, tag_type, may_have_tags, is_string_type, entity_kinds, has_tag_type}
use Rattle.cedar_typechecker_model.specs.OfLaws.Simple.{is_simple, IsOrderly}
use Rattle.cedar_typechecker_model.specs.Soundness.{ConformsAt}
use Rattle.cedar_typechecker_model.proofs.Sound.Shapes.{any_value, text_value}
use Rattle.cedar_typechecker_model.proofs.Sound.Entities.{Tags, held_tag}
use Rattle.cedar_typechecker_model.proofs.Sound.Attributes.{Fine, fine_as, one_kind}
use Rattle.cedar_typechecker_model.specs.Rules as rules
use Rattle.std.specs.Map.{lookup}
use Rattle.std.specs.Str.{bytes_eq}

-- the type of the tags of one entity type
one_tag : (o : Option Ty) (t : Ty) → option_and_then (reduce_to_join permissive) (option_and_then (λ a. Some (a ∷ [])) o) ≡ Some t → o ≡ Some t
one_tag None t e = cc
one_tag (Some u) t e = e

pub one_tag_type : (x : Setting) (t ty : Ty) (v : V) → is_simple t ≡ true → HasType v t → tag_type x t ≡ Some ty → (u : Uid) × (v ≡ prim (entity u)) × (rules.tags_of x.schema u.kind ≡ Some ty)
one_tag_type x (entity_types (n ∷ [])) ty v z h e = let k = one_kind n v h in (k.0, k.1, subst (λ m. rules.tags_of x.schema m ≡ Some ty) (sym k.2) (one_tag (rules.tags_of x.schema n) ty e))
one_tag_type x (entity_types []) ty v z h e = cc
one_tag_type x (entity_types (n ∷ m ∷ ns)) ty v z h e = cc
one_tag_type x t ty v z h e = cc

pub is_text : (t : Ty) (v : V) → is_string_type t ≡ true → HasType v t → (a : Text) × (v ≡ prim (text a))
is_text string_type v e h = text_value v h
is_text t v e h = cc

module _ (s : Schema) (o : IsOrderly s) (w : World) where
  part_typed : (a : Text) (u : Uid) (ty : Ty) (p : Option (Part V)) → rules.tags_of s u.kind ≡ Some ty → ((x : Part V) → p ≡ Some x → Tags (rules.tags_of s u.kind) x) → Some (says (is_some p)) ≡ Some (val (truth_value true)) → Fine ty (part_value p)
  part_typed a u ty None h f e = cc
  part_typed a u ty (Some (left t)) h f e = tt
  part_typed a u ty (Some (known v)) h f e =
      let k = f (known v) refl in
      let q : k.held ≡ v = (let z : known v ≡ known k.held = k.is_held in cc) in
      let t : k.what ≡ ty = inside (sym k.is_what ∙ h) in
      subst (HasType v) t (subst (λ z. HasType z k.what) q k.of_type)

  found_tag : (a : Text) (u : Uid) (ty : Ty) (f : Found V) → w.store u ≡ f → ConformsAt s w u → rules.tags_of s u.kind ≡ Some ty → part_tested tags_of u a f ≡ Some (val (truth_value true)) → Fine ty (part_read tags_of u a f)
  found_tag a u ty (held e) q c h k = part_typed a u ty (lookup (bytes_eq a) e.tags) h (λ p i. held_tag s o u e (c e q) a p i) k
  found_tag a u ty missing q c h k = tt
  found_tag a u ty not_loaded q c h k = tt

  pub tag_fine : (x : Setting) → x.schema ≡ s → (is_known : Bool) (t u ty : Ty) (v v' : V) → is_simple t ≡ true → HasType v t → HasType v' u → (if is_string_type u && is_known then tag_type x t else None) ≡ Some ty
      → ((y : Uid) → v ≡ prim (entity y) → (z : Text) → v' ≡ prim (text z) → ConformsAt s w y) → (is_known ≡ true → tag_tested w v v' ≡ Some (val (truth_value true))) → Fine ty (tag_read w v v')
  tag_fine x g b t u ty v v' z h i e c k = by (is_string_type u) b e (λ q. is_text u v' q i) k
    where
      by : (d b : Bool) → (if d && b then tag_type x t else None) ≡ Some ty → (d ≡ true → (a : Text) × (v' ≡ prim (text a))) → (b ≡ true → tag_tested w v v' ≡ Some (val (truth_value true))) → Fine ty (tag_read w v v')
      by true true e f k =
          let a = f refl in
          let y = one_tag_type x t ty v z h e in
          subst (λ p. Fine ty (tag_read w p v')) (sym y.1) (subst (λ p. Fine ty (tag_read w (prim (entity y.0)) p)) (sym a.1)
          (found_tag a.0 y.0 ty (w.store y.0) refl (c y.0 y.1 a.0 a.1) (subst (λ r. rules.tags_of r y.0.kind ≡ Some ty) g y.2)
          (subst (λ p. tag_tested w (prim (entity y.0)) p ≡ Some (val (truth_value true))) a.1 (subst (λ p. tag_tested w p v' ≡ Some (val (truth_value true))) y.1 (k refl)))))
      by true false e f k = cc
      by false b e f k = cc

  -- the test of a tag
  found_none : (a : Text) (u : Uid) (f : Found V) → w.store u ≡ f → ConformsAt s w u → is_some (rules.tags_of s u.kind) ≡ false → Fine (bool_type only_false) (part_tested tags_of u a f)
  found_none a u (held e) q c n = by (lookup (bytes_eq a) e.tags) (λ p i. held_tag s o u e (c e q) a p i)
    where
      by : (p : Option (Part V)) → ((x : Part V) → p ≡ Some x → Tags (rules.tags_of s u.kind) x) → not (is_some p) ≡ true
      by None f = refl
      by (Some x) f = (let k = f x refl in let z = ap is_some k.is_what in cc)
  found_none a u missing q c n = refl
  found_none a u not_loaded q c n = tt

  any_tested : (a : Text) (u : Uid) (f : Found V) → Fine (bool_type any_bool) (part_tested tags_of u a f)
  any_tested a u (held e) = refl
  any_tested a u missing = refl
  any_tested a u not_loaded = tt

  may_tested : (a : Text) (u : Uid) (b : Bool) → ConformsAt s w u → (b ≡ false → is_some (rules.tags_of s u.kind) ≡ false) → Fine (bool_type (if b then any_bool else only_false)) (part_tested tags_of u a (w.store u))
  may_tested a u true c n = any_tested a u (w.store u)
  may_tested a u false c n = found_none a u (w.store u) refl c (n refl)

  text_tested : (x : Setting) → x.schema ≡ s → (t : Ty) (b : BoolType) (v : V) (a : Text) → is_simple t ≡ true → HasType v t → option_map (λ k. if may_have_tags x t then any_bool else only_false) (entity_kinds t) ≡ Some b
      → ((y : Uid) → v ≡ prim (entity y) → ConformsAt s w y) → Fine (bool_type b) (tag_tested w v (prim (text a)))
  text_tested x g any_entity b v a z h e c =
      let i = any_value v h in
      let q : any_bool ≡ b = inside e in
      subst (λ y. Fine (bool_type b) (tag_tested w y (prim (text a)))) (sym i.1) (fine_as (bool_type any_bool) (bool_type b) (part_tested tags_of i.0 a (w.store i.0)) (ap bool_type q) (any_tested a i.0 (w.store i.0)))
  text_tested x g (entity_types (n ∷ [])) b v a z h e c =
      let i = one_kind n v h in
      let q : (if is_some (rules.tags_of x.schema n) || false then any_bool else only_false) ≡ b = inside e in
      let r : (if is_some (rules.tags_of s i.0.kind) || false then any_bool else only_false) ≡ b = (λ j. if is_some (rules.tags_of (sym g j) (i.2 j)) || false then any_bool else only_false) ∙ q in
      subst (λ y. Fine (bool_type b) (tag_tested w y (prim (text a)))) (sym i.1)
      (fine_as _ (bool_type b) (part_tested tags_of i.0 a (w.store i.0)) (ap bool_type r) (may_tested a i.0 (is_some (rules.tags_of s i.0.kind) || false) (c i.0 i.1) (neither (is_some (rules.tags_of s i.0.kind)))))
    where
      neither : (d : Bool) → (d || false) ≡ false → d ≡ false
      neither true e = e
      neither false e = refl
  text_tested x g (entity_types []) b v a z h e c = cc
  text_tested x g (entity_types (n ∷ m ∷ ns)) b v a z h e c = cc
  text_tested x g t b v a z h e c = cc

  pub has_tag_fine : (x : Setting) → x.schema ≡ s → (t u : Ty) (b : BoolType) (v v' : V) → is_simple t ≡ true → HasType v t → HasType v' u → has_tag_type x t u ≡ Some b
      → ((y : Uid) → v ≡ prim (entity y) → (z : Text) → v' ≡ prim (text z) → ConformsAt s w y) → Fine (bool_type b) (tag_tested w v v')
  has_tag_fine x g t u b v v' z h i e c = by (is_string_type u) e (λ q. is_text u v' q i)
    where
      by : (d : Bool) → (if d then option_map (λ k. if may_have_tags x t then any_bool else only_false) (entity_kinds t) else None) ≡ Some b → (d ≡ true → (a : Text) × (v' ≡ prim (text a))) → Fine (bool_type b) (tag_tested w v v')
      by true e f = let a = f refl in subst (λ p. Fine (bool_type b) (tag_tested w v p)) (sym a.1) (text_tested x g t b v a.0 z h e (λ y q. c y q a.0 a.1))
      by false e f = cc
