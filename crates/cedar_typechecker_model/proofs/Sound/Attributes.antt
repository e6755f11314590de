-- An attribute that may be read has a value of its type, or the entity is missing; and its test says what its type says.
use Rattle.std.proofs.Common.{◌≡◌, ◌&&◌, ◌||◌, Bool, true, false, not, [], ◌∷◌, Option, Some, None, refl, sym, ap, ◌∙◌, subst}
use Rattle.std.specs.Prelude.{is_some, option_and_then, if◌then◌else◌}
use Rattle.cedar_expr_model.specs.Name.{Name, Text}
use Rattle.cedar_expr_model.specs.Uid.{Uid}
use Rattle.cedar_expr_model.specs.Value.{entity, V, prim, Fields, field_of, truth_value}
use Rattle.cedar_expr_model.proofs.Lists.{contains_cases, contains_none}
use Rattle.cedar_store_model.specs.Outcome.{Res, val}
use Rattle.cedar_store_model.specs.World.{World, Found, held, missing, not_loaded}
use Rattle.cedar_expr_model.specs.ValueParts.{Part, known, left}
use Rattle.cedar_store_model.specs.Operators.{says}
use Rattle.cedar_store_model.specs.Reads.{part_value, part_read, part_tested, attribute_read, attribute_tested}
use Rattle.cedar_store_model.proofs.Named.{attributes_of}
use Rattle.cedar_schema_model.specs.Types.{BoolType, any_bool, only_true, only_false, Openness, is_open, is_closed, Ty, bool_type, any_entity, entity_types, record_type, Attributes, Declared, attribute_named}
use Rattle.cedar_schema_model.specs.Schema.{Schema}
use Rattle.cedar_schema_model.specs.Lookup.{lookup_attribute, declared_of, declared_by_all}
use Rattle.cedar_schema_model.specs.HasType.{is_of_bool, FieldFits, HasRequired, FieldsFit, HasType}
use Rattle.cedar_schema_model.proofs.Types.Lookups.{inside}
use Rattle.cedar_schema_model.proofs.Types.Known.{field_at}
use Rattle.cedar_schema_model.proofs.Types.Values.{required_at, field_some}
use Rattle.cedar_typechecker_model.specs.Rules.{Setting, has_field, has_type, attribute_type}
use Rattle.cedar_typechecker_model.specs.OfLaws.Simple.{is_simple, IsOrderly}
use Rattle.cedar_typechecker_model.specs.Soundness.{IsGood, ConformsAt}
use Rattle.cedar_typechecker_model.proofs.Sound.Shapes.{any_value, entity_value, record_value}
use Rattle.cedar_typechecker_model.proofs.Sound.Entities.{Declares, held_attribute, required_attribute}
use Rattle.cedar_typechecker_model.proofs.Named.{field_value}
use Rattle.std.specs.Map.{lookup}
use Rattle.std.specs.Str.{bytes_eq}

-- What is known of an outcome, if anything is, is good for the type.
abbrev pub Fine : Ty → Option (Res V) → Type 0
Fine ty None = Unit {0}
Fine ty (Some r) = IsGood ty r

pub fine_as : (t ty : Ty) (o : Option (Res V)) → t ≡ ty → Fine t o → Fine ty o
fine_as t ty o e h = subst (λ z. Fine z o) e h

-- an entity of one type
pub one_kind : (n : Name) (v : V) → HasType v (entity_types (n ∷ [])) → (u : Uid) × (v ≡ prim (entity u)) × (u.kind ≡ n)
one_kind n v h = let k = entity_value (n ∷ []) v h in (k.0, k.1, contains_cases (k.0.kind ≡ n) n [] k.0.kind k.2 (λ e. sym e) (λ i. absurd (contains_none k.0.kind i)))

-- what is declared of one entity type
pub record DeclaredAs (o : Option Declared) (d : Declared) : Type 0 where
  pub what : Declared
  pub is_what : o ≡ Some what
  pub same : what.type ≡ d.type
  pub required : d.is_required ≡ true → what.is_required ≡ true

pub one_declared : (o : Option Declared) (d : Declared) → option_and_then declared_by_all (option_and_then (λ c. Some (c ∷ [])) o) ≡ Some d → DeclaredAs o d
one_declared None d e = cc
one_declared (Some c) d e =
    let q : record { type = c.type; is_required = c.is_required && true } ≡ d = inside e in
    record { what = c; is_what = refl; same = ap (λ (x : Declared). x.type) q; required = λ r. both (c.is_required) (ap (λ (x : Declared). x.is_required) q ∙ r) }
  where
    both : (b : Bool) → (b && true) ≡ true → b ≡ true
    both true e = refl
    both false e = e

same_declared : (o : Option Declared) (c d : Declared) → o ≡ Some c → o ≡ Some d → c ≡ d
same_declared o c d e f = inside (sym e ∙ f)

-- reading
pub field_is : (o : Option V) (v : V) → Some (field_value o) ≡ Some (val v) → o ≡ Some v
field_is None v e = cc
field_is (Some u) v e = (let q : u ≡ v = cc in ap Some q)

pub part_is : (o : Option (Part V)) (v : V) → part_value o ≡ Some (val v) → o ≡ Some (known v)
part_is None v e = cc
part_is (Some (known u)) v e = (let q : u ≡ v = cc in ap (λ x. Some (known x)) q)
part_is (Some (left t)) v e = cc

-- what is required, or known to be there, doesn't lack
pub not_lacking : (b c : Bool) → (b || c) ≡ true → (b ≡ true → false ≡ true) → (c ≡ true → Some (says false) ≡ Some (val (truth_value true))) → ⊥
not_lacking true c e f g = (let q = f refl in cc)
not_lacking false true e f g = (let q = g refl in cc)
not_lacking false false e f g = cc

module _ (s : Schema) (o : IsOrderly s) (w : World) (a : Text) where
  held_read : (u : Uid) (f : Found V) (d : Declared) (v : V) → w.store u ≡ f → ConformsAt s w u → declared_of s a u.kind ≡ Some d → part_read attributes_of u a f ≡ Some (val v) → HasType v d.type
  held_read u (held e) d v q c h r =
      let k = held_attribute s o u e (c e q) a (known v) (part_is (lookup (bytes_eq a) e.attributes) v r) in
      let p : k.held ≡ v = (let z : known v ≡ known k.held = k.is_held in cc) in
      let t : k.what ≡ d = same_declared (declared_of s a u.kind) k.what d k.is_what h in
      subst (HasType v) (ap (λ (x : Declared). x.type) t) (subst (λ z. HasType z k.what.type) p k.of_type)
  held_read u missing d v q c h r = cc
  held_read u not_loaded d v q c h r = cc

  -- what is read of a declared attribute is of its type
  pub value_read : (t : Ty) (d : Declared) (v v' : V) → is_simple t ≡ true → HasType v t → lookup_attribute s t a ≡ Some d → ((u : Uid) → v ≡ prim (entity u) → ConformsAt s w u) → attribute_read w a v ≡ Some (val v') → HasType v' d.type
  value_read (record_type as_ p) d v v' z h e c r =
      let k = record_value as_ p v h in
      let f : field_of a k.0 ≡ Some v' = field_is (field_of a k.0) v' (subst (λ x. attribute_read w a x ≡ Some (val v')) k.1 r) in
      field_some (HasType v') p (attribute_named a as_) d e (field_at as_ p k.0 k.3 a v' f)
  value_read (entity_types (n ∷ [])) d v v' z h e c r =
      let k = one_kind n v h in
      let q = one_declared (declared_of s a n) d e in
      subst (HasType v') q.same (held_read k.0 (w.store k.0) q.what v' refl (c k.0 k.1) (subst (λ m. declared_of s a m ≡ Some q.what) (sym k.2) q.is_what) (subst (λ x. attribute_read w a x ≡ Some (val v')) k.1 r))
  value_read (entity_types []) d v v' z h e c r = cc
  value_read (entity_types (n ∷ m ∷ ns)) d v v' z h e c r = cc
  value_read t d v v' z h e c r = cc

  -- what is required, or known to be there, is there
  module _ (is_known : Bool) (d : Declared) (there : (d.is_required || is_known) ≡ true) where
    field_there : (f : Option V) → (d.is_required ≡ true → is_some f ≡ true) → (is_known ≡ true → Some (says (is_some f)) ≡ Some (val (truth_value true))) → ((v : V) → f ≡ Some v → HasType v d.type) → Fine d.type (Some (field_value f))
    field_there (Some v) r k h = h v refl
    field_there None r k h = absurd (not_lacking d.is_required is_known there r k)

    part_there : (f : Option (Part V)) → (d.is_required ≡ true → is_some f ≡ true) → (is_known ≡ true → Some (says (is_some f)) ≡ Some (val (truth_value true))) → ((v : V) → f ≡ Some (known v) → HasType v d.type) → Fine d.type (part_value f)
    part_there (Some (known v)) r k h = h v refl
    part_there (Some (left t)) r k h = tt
    part_there None r k h = absurd (not_lacking d.is_required is_known there r k)

    found_there : (u : Uid) (f : Found V) → w.store u ≡ f → ConformsAt s w u → DeclaredAs (declared_of s a u.kind) d → (is_known ≡ true → part_tested attributes_of u a f ≡ Some (val (truth_value true))) → Fine d.type (part_read attributes_of u a f)
    found_there u (held e) q c h k =
        part_there (lookup (bytes_eq a) e.attributes) (λ r. required_attribute s o u e (c e q) a h.what h.is_what (h.required r)) k
        (λ v p. subst (HasType v) h.same (held_read u (held e) h.what v q c h.is_what (ap part_value p)))
    found_there u missing q c h k = tt
    found_there u not_loaded q c h k = tt

    read_there : (t : Ty) (v : V) → is_simple t ≡ true → HasType v t → lookup_attribute s t a ≡ Some d → ((u : Uid) → v ≡ prim (entity u) → ConformsAt s w u) → (is_known ≡ true → attribute_tested w a v ≡ Some (val (truth_value true))) → Fine d.type (attribute_read w a v)
    read_there (record_type as_ p) v z h e c k =
        let i = record_value as_ p v h in
        subst (λ x. Fine d.type (attribute_read w a x)) (sym i.1)
        (field_there (field_of a i.0) (required_at as_ i.0 i.2 a d e) (λ y. subst (λ x. attribute_tested w a x ≡ Some (val (truth_value true))) i.1 (k y))
        (λ y f. field_some (HasType y) p (attribute_named a as_) d e (field_at as_ p i.0 i.3 a y f)))
    read_there (entity_types (n ∷ [])) v z h e c k =
        let i = one_kind n v h in
        subst (λ x. Fine d.type (attribute_read w a x)) (sym i.1)
        (found_there i.0 (w.store i.0) refl (c i.0 i.1) (subst (λ m. DeclaredAs (declared_of s a m) d) (sym i.2) (one_declared (declared_of s a n) d e)) (λ y. subst (λ x. attribute_tested w a x ≡ Some (val (truth_value true))) i.1 (k y)))
    read_there (entity_types []) v z h e c k = cc
    read_there (entity_types (n ∷ m ∷ ns)) v z h e c k = cc
    read_there t v z h e c k = cc

  pub get_fine : (is_known : Bool) (t ty : Ty) (v : V) → is_simple t ≡ true → HasType v t → attribute_type is_known (lookup_attribute s t a) ≡ Some ty → ((u : Uid) → v ≡ prim (entity u) → ConformsAt s w u) → (is_known ≡ true → attribute_tested w a v ≡ Some (val (truth_value true))) → Fine ty (attribute_read w a v)
  get_fine b t ty v z h e c k = by (lookup_attribute s t a) (λ d q there. read_there b d there t v z h q c k) e
    where
      flag : (b : Bool) (t ty : Ty) → (if b then Some t else None) ≡ Some ty → (b ≡ true) × (t ≡ ty)
      flag true t ty e = (refl, inside e)
      flag false t ty e = cc

      by : (l : Option Declared) → ((d : Declared) → l ≡ Some d → (d.is_required || b) ≡ true → Fine d.type (attribute_read w a v)) → attribute_type b l ≡ Some ty → Fine ty (attribute_read w a v)
      by None f q = cc
      by (Some d) f q = let g = flag (d.is_required || b) d.type ty q in fine_as d.type ty (attribute_read w a v) g.1 (f d refl g.0)

  -- the test of an attribute
  field_tested : (as_ : Attributes) (p : Openness) (fs : Fields) (l : Option Declared) → attribute_named a as_ ≡ l → HasRequired as_ fs → FieldsFit as_ p fs → Fine (bool_type (has_field p l)) (Some (says (is_some (field_of a fs))))
  field_tested as_ p fs (Some d) q h k = by d.is_required (λ r. required_at as_ fs h a d q r)
    where
      by : (b : Bool) → (b ≡ true → is_some (field_of a fs) ≡ true) → is_of_bool (if b then only_true else any_bool) (is_some (field_of a fs)) ≡ true
      by true f = f refl
      by false f = refl
  field_tested as_ is_open fs None q h k = refl
  field_tested as_ is_closed fs None q h k = by (field_of a fs) (λ v e. subst (FieldFits is_closed (HasType v)) q (field_at as_ is_closed fs k a v e))
    where
      by : (f : Option V) → ((v : V) → f ≡ Some v → ⊥) → not (is_some f) ≡ true
      by None n = refl
      by (Some v) n = absurd (n v refl)

  found_tested : (u : Uid) (f : Found V) → w.store u ≡ f → ConformsAt s w u → is_some (declared_of s a u.kind) ≡ false → Fine (bool_type only_false) (part_tested attributes_of u a f)
  found_tested u (held e) q c n = by (lookup (bytes_eq a) e.attributes) (λ p h. held_attribute s o u e (c e q) a p h)
    where
      by : (p : Option (Part V)) → ((x : Part V) → p ≡ Some x → Declares (declared_of s a u.kind) x) → not (is_some p) ≡ true
      by None f = refl
      by (Some x) f = (let k = f x refl in let z = ap is_some k.is_what in cc)
  found_tested u missing q c n = refl
  found_tested u not_loaded q c n = tt

  any_tested : (u : Uid) (f : Found V) → Fine (bool_type any_bool) (part_tested attributes_of u a f)
  any_tested u (held e) = refl
  any_tested u missing = refl
  any_tested u not_loaded = tt

  may_tested : (u : Uid) (b : Bool) → ConformsAt s w u → (b ≡ false → is_some (declared_of s a u.kind) ≡ false) → Fine (bool_type (if b then any_bool else only_false)) (part_tested attributes_of u a (w.store u))
  may_tested u true c n = any_tested u (w.store u)
  may_tested u false c n = found_tested u (w.store u) refl c (n refl)

  pub has_fine : (x : Setting) → x.schema ≡ s → (t : Ty) (b : BoolType) (v : V) → is_simple t ≡ true → HasType v t → has_type x t a ≡ Some b → ((u : Uid) → v ≡ prim (entity u) → ConformsAt s w u) → Fine (bool_type b) (attribute_tested w a v)
  has_fine x g (record_type as_ p) b v z h e c =
      let i = record_value as_ p v h in
      let q : has_field p (attribute_named a as_) ≡ b = inside e in
      subst (λ y. Fine (bool_type b) (attribute_tested w a y)) (sym i.1) (fine_as _ (bool_type b) (Some (says (is_some (field_of a i.0)))) (ap bool_type q) (field_tested as_ p i.0 (attribute_named a as_) refl i.2 i.3))
  has_fine x g any_entity b v z h e c =
      let i = any_value v h in
      let q : any_bool ≡ b = inside e in
      subst (λ y. Fine (bool_type b) (attribute_tested w a y)) (sym i.1) (fine_as (bool_type any_bool) (bool_type b) (part_tested attributes_of i.0 a (w.store i.0)) (ap bool_type q) (any_tested i.0 (w.store i.0)))
  has_fine x g (entity_types (n ∷ [])) b v z h e c =
      let i = one_kind n v h in
      let q : (if is_some (declared_of x.schema a n) || false then any_bool else only_false) ≡ b = inside e in
      let r : (if is_some (declared_of s a i.0.kind) || false then any_bool else only_false) ≡ b = (λ j. if is_some (declared_of (sym g j) a (i.2 j)) || false then any_bool else only_false) ∙ q in
      subst (λ y. Fine (bool_type b) (attribute_tested w a y)) (sym i.1)
      (fine_as _ (bool_type b) (part_tested attributes_of i.0 a (w.store i.0)) (ap bool_type r) (may_tested i.0 (is_some (declared_of s a i.0.kind) || false) (c i.0 i.1) (neither (is_some (declared_of s a i.0.kind)))))
    where
      neither : (d : Bool) → (d || false) ≡ false → d ≡ false
      neither true e = e
      neither false e = refl
  has_fine x g (entity_types []) b v z h e c = cc
  has_fine x g (entity_types (n ∷ m ∷ ns)) b v z h e c = cc
  has_fine x g t b v z h e c = cc
