-- The test of a path is good: it is the conjunction of its tests.
use Rattle.std.proofs.Common.{◌≡◌, ◌⊎◌, inl, inr, true, false, List, [], ◌∷◌, Option, Some, None, refl, sym, ap, ◌∙◌, subst}
use Rattle.std.specs.Prelude.{is_some, option_map, option_and_then}
use Rattle.cedar_expr_model.specs.Name.{Text}
use Rattle.cedar_expr_model.specs.Uid.{Uid}
use Rattle.cedar_expr_model.specs.Value.{entity, V, prim, record_of, field_of, truth_value}
use Rattle.cedar_expr_model.specs.Tree.{Tree, get_attr, has_attr}
use Rattle.cedar_store_model.specs.Outcome.{Res, val, bind}
use Rattle.cedar_store_model.specs.World.{World, Found, held, missing, not_loaded}
use Rattle.cedar_expr_model.specs.ValueParts.{Part, known, left}
use Rattle.cedar_store_model.specs.Operators.{says}
use Rattle.cedar_store_model.specs.Reads.{part_read, part_tested, attribute_read, attribute_tested, part_value}
use Rattle.cedar_store_model.proofs.Named.{attributes_of}
use Rattle.cedar_store_model.specs.Meaning.{outcome_of, path_tested}
use Rattle.cedar_store_model.specs.Looks.{PathLooks}
use Rattle.cedar_store_model.proofs.Meaning.{outcome_means}
use Rattle.cedar_schema_model.specs.Types.{BoolType, any_bool, only_true, only_false, Ty, bool_type, Declared}
use Rattle.cedar_schema_model.specs.Schema.{Schema}
use Rattle.cedar_schema_model.specs.Lookup.{lookup_attribute}
use Rattle.cedar_schema_model.specs.HasType.{HasType}
use Rattle.cedar_typechecker_model.specs.Facts.{Facts, attribute_part}
use Rattle.cedar_typechecker_model.specs.Rules.{Setting, has_type}
use Rattle.cedar_typechecker_model.specs.Typing.{Judgement, tested, step_type, path_judged, and_judged, Gives, Sub, AndTyped}
use Rattle.cedar_typechecker_model.specs.OfLaws.Simple.{is_simple, IsOrderly}
use Rattle.cedar_typechecker_model.specs.Soundness.{ConformsAt}
use Rattle.cedar_typechecker_model.proofs.Sound.Typed.{simple_lookup}
use Rattle.cedar_typechecker_model.proofs.Sound.Attributes.{Fine, value_read, has_fine}
use Rattle.cedar_typechecker_model.proofs.Sound.Facts.{Good, good_test}
use Rattle.cedar_typechecker_model.proofs.Sound.Connectives.{plain_truth, and_good}
use Rattle.cedar_typechecker_model.proofs.Exact.{exact_sub, exact_gives}
use Rattle.cedar_typechecker_model.proofs.Typing.{exact_and}
use Rattle.cedar_typechecker_model.proofs.Named.{field_value}
use Rattle.std.specs.Map.{lookup}
use Rattle.std.specs.Str.{bytes_eq}

-- the typing of a path, as the conjunction of its first test with what follows
abbrev pub Rest : Setting → Text → List Text → Tree → Text → Ty → Facts → Ty → Facts → Type 0
Rest s b bs e a t f = Gives (option_and_then (path_judged s b bs (get_attr e a)) (step_type s t a))

pub path_typed : (s : Setting) (a b : Text) (bs : List Text) (e : Tree) (t : Ty) (ty : Ty) (out : Facts) → Gives (path_judged s a (b ∷ bs) e t) ty out
    → Sub (Gives (option_map (tested e (attribute_part a)) (has_type s t a))) (AndTyped (Rest s b bs e a t)) ty out
path_typed s a b bs e t ty out d =
    let first = option_map (tested e (attribute_part a)) (has_type s t a) in
    let rest = λ (f : Facts). option_and_then (path_judged s b bs (get_attr e a)) (step_type s t a) in
    (exact_sub (Gives first) (AndTyped (Rest s b bs e a t)) first (and_judged rest) (exact_gives first) (exact_and (Rest s b bs e a t) rest (λ f. exact_gives (rest f)))).gives ty out
    ((exact_gives (path_judged s a (b ∷ bs) e t)).only ty out d)

-- the step that goes on has a declared type
declared_step : (l : Option Declared) (rest : Ty → Option Judgement) (ty : Ty) (out : Facts) → Gives (option_and_then rest (option_map (λ (d : Declared). d.type) l)) ty out → (d : Declared) × (l ≡ Some d) × Gives (rest d.type) ty out
declared_step None rest ty out h = absurd h
declared_step (Some d) rest ty out h = (d, refl, h)

-- what is read where the test is true is a value, or nothing is known
abbrev IsRead : Option (Res V) → Type 0
IsRead o = (o ≡ None) ⊎ ((v : V) × (o ≡ Some (val v)))

read_part : (p : Option (Part V)) → Some (says (is_some p)) ≡ Some (val (truth_value true)) → IsRead (part_value p)
read_part None q = cc
read_part (Some (known v)) q = inr (v, refl)
read_part (Some (left t)) q = inl refl

read_found : (u : Uid) (a : Text) (f : Found V) → part_tested attributes_of u a f ≡ Some (val (truth_value true)) → IsRead (part_read attributes_of u a f)
read_found u a (held d) q = read_part (lookup (bytes_eq a) d.attributes) q
read_found u a missing q = cc
read_found u a not_loaded q = cc

read_field : (f : Option V) → Some (says (is_some f)) ≡ Some (val (truth_value true)) → IsRead (Some (field_value f))
read_field None q = cc
read_field (Some v) q = inr (v, refl)

pub read_true : (w : World) (a : Text) (v : V) → attribute_tested w a v ≡ Some (val (truth_value true)) → IsRead (attribute_read w a v)
read_true w a (prim (entity u)) e = read_found u a (w.store u) e
read_true w a (record_of fs) e = read_field (field_of a fs) e
read_true w a v e = cc

-- what follows a first test that is true
rest_good : (w : World) (s : Setting) (a b : Text) (bs : List Text) (e : Tree) (t : Ty) (r : Option (Res V)) (u : Ty) (f : Facts)
    → ((d : Declared) (v : V) → lookup_attribute s.schema t a ≡ Some d → r ≡ Some (val v) → Gives (path_judged s b bs (get_attr e a) d.type) u f → Good w u f (path_tested w b bs v))
    → IsRead r → Gives (option_and_then (path_judged s b bs (get_attr e a)) (step_type s t a)) u f → Good w u f (bind r (path_tested w b bs))
rest_good w s a b bs e t r u f n (inl q) h = subst (λ o. Good w u f (bind o (path_tested w b bs))) (sym q) (record { fine = tt; holds = λ k. cc })
rest_good w s a b bs e t r u f n (inr (v, q)) h =
    let d = declared_step (lookup_attribute s.schema t a) (path_judged s b bs (get_attr e a)) u f h in
    subst (λ o. Good w u f (bind o (path_tested w b bs))) (sym q) (n d.0 v d.1 q d.2)

module _ (s : Schema) (o : IsOrderly s) (w : World) (x : Setting) (g : x.schema ≡ s) where
  pub path_good : (bs : List Text) (a : Text) (e : Tree) (t : Ty) (v : V) → is_simple t ≡ true → HasType v t → outcome_of w e ≡ Some (val v) → ((u : Uid) → PathLooks w a bs v u → ConformsAt s w u)
      → (ty : Ty) (out : Facts) → Gives (path_judged x a bs e t) ty out → Good w ty out (path_tested w a bs v)
  path_good [] a e t v z h q c ty out d =
      good_test w e (attribute_part a) (has_type x t a) (attribute_tested w a v) (λ b k. has_fine s o w a x g t b v z h k c)
      (λ k. outcome_means w (has_attr e a) (val (truth_value true)) (ap (λ y. bind y (attribute_tested w a)) q ∙ k)) ty out d
  path_good (b ∷ bs) a e t v z h q c ty out d =
      let k = path_typed x a b bs e t ty out d in
      let first = good_test w e (attribute_part a) (has_type x t a) (attribute_tested w a v) (λ y r. has_fine s o w a x g t y v z h r (λ u i. c u (inl i)))
      (λ r. outcome_means w (has_attr e a) (val (truth_value true)) (ap (λ y. bind y (attribute_tested w a)) q ∙ r)) k.0 k.1 k.2 in
      and_good w (Rest x b bs e a t) k.1 (attribute_tested w a v) (bind (attribute_read w a v) (path_tested w b bs)) k.0 first
      (λ y u f r. plain_truth w u f (bind (attribute_read w a v) (path_tested w b bs))
      (rest_good w x a b bs e t (attribute_read w a v) u f
      (λ m v' l i j. path_good bs b (get_attr e a) m.type v' (simple_lookup s o t a m z (subst (λ n. lookup_attribute n t a ≡ Some m) g l)) (value_read s o w a t m v v' z h (subst (λ n. lookup_attribute n t a ≡ Some m) g l) (λ p r. c p (inl r)) i)
      (ap (λ n. bind n (attribute_read w a)) q ∙ i) (λ p r. c p (inr (v', i, r))) u f j)
      (read_true w a v y) r))
      ty out k.3

-- what is read passes the test
read_part_passes : (p : Option (Part V)) (v : V) → part_value p ≡ Some (val v) → Some (says (is_some p)) ≡ Some (says true)
read_part_passes None v e = cc
read_part_passes (Some p) v e = refl

read_found_passes : (u : Uid) (a : Text) (f : Found V) (v : V) → part_read attributes_of u a f ≡ Some (val v) → part_tested attributes_of u a f ≡ Some (says true)
read_found_passes u a (held d) v e = read_part_passes (lookup (bytes_eq a) d.attributes) v e
read_found_passes u a missing v e = cc
read_found_passes u a not_loaded v e = cc

read_field_passes : (f : Option V) (v : V) → Some (field_value f) ≡ Some (val v) → Some (says (is_some f)) ≡ Some (says true)
read_field_passes None v e = cc
read_field_passes (Some x) v e = refl

read_passes : (w : World) (a : Text) (x v : V) → attribute_read w a x ≡ Some (val v) → attribute_tested w a x ≡ Some (says true)
read_passes w a (prim (entity u)) v e = read_found_passes u a (w.store u) v e
read_passes w a (record_of fs) v e = read_field_passes (field_of a fs) v e
read_passes w a x v e = cc

-- behind a first test that isn't False the rest has a type
sub_of : (right : Facts → Ty → Facts → Type 0) (b : BoolType) (t : Ty) (f : Facts) (ty : Ty) (out : Facts) → t ≡ bool_type b → (b ≡ only_false → ⊥) → AndTyped right t f ty out → (u : Ty) × (g : Facts) × right f u g
sub_of right any_bool t f ty out e n h = let k = subst (λ z. AndTyped right z f ty out) e h in (k.0, k.1, k.2)
sub_of right only_true t f ty out e n h = let k = subst (λ z. AndTyped right z f ty out) e h in (k.0, k.1, k.2)
sub_of right only_false t f ty out e n h = absurd (n refl)

rest_typed : (s : Setting) (a b : Text) (bs : List Text) (e : Tree) (t : Ty) → (has_type s t a ≡ Some only_false → ⊥) → (ty : Ty) (out : Facts) → Gives (path_judged s a (b ∷ bs) e t) ty out
    → (d : Declared) × (lookup_attribute s.schema t a ≡ Some d) × ((u : Ty) × (g : Facts) × Gives (path_judged s b bs (get_attr e a) d.type) u g)
rest_typed s a b bs e t n ty out h =
    let k = path_typed s a b bs e t ty out h in
    let r = by (has_type s t a) n k.0 k.1 k.2 k.3 in
    let d = declared_step (lookup_attribute s.schema t a) (path_judged s b bs (get_attr e a)) r.0 r.1 r.2 in
    (d.0, d.1, (r.0, r.1, d.2))
  where
    by : (o : Option BoolType) → (o ≡ Some only_false → ⊥) → (t0 : Ty) (f : Facts) → Gives (option_map (tested e (attribute_part a)) o) t0 f → AndTyped (Rest s b bs e a t) t0 f ty out
        → (u : Ty) × (g : Facts) × Gives (option_and_then (path_judged s b bs (get_attr e a)) (step_type s t a)) u g
    by None m t0 f g i = absurd g
    by (Some any_bool) m t0 f g i = sub_of (Rest s b bs e a t) any_bool t0 f ty out g.0 (λ k. cc) i
    by (Some only_true) m t0 f g i = sub_of (Rest s b bs e a t) only_true t0 f ty out g.0 (λ k. cc) i
    by (Some only_false) m t0 f g i = absurd (m refl)

-- The value that a path goes on with has the type of the next step.
pub record Onward (s : Setting) (a b : Text) (bs : List Text) (e : Tree) (t : Ty) (v : V) : Type 0 where
  pub what : Declared
  pub declared : lookup_attribute s.schema t a ≡ Some what
  pub of_type : HasType v what.type
  pub is_simple : is_simple what.type ≡ true
  pub type : Ty
  pub facts : Facts
  pub typed : Gives (path_judged s b bs (get_attr e a) what.type) type facts

pub goes_onward : (s : Setting) → IsOrderly s.schema → (w : World) (a b : Text) (bs : List Text) (e : Tree) (t : Ty) (v x : V) → is_simple t ≡ true → HasType v t → ((u : Uid) → v ≡ prim (entity u) → ConformsAt s.schema w u)
    → attribute_read w a v ≡ Some (val x) → (ty : Ty) (out : Facts) → Gives (path_judged s a (b ∷ bs) e t) ty out → Onward s a b bs e t x
goes_onward s o w a b bs e t v x z h c g ty out d =
    let r = read_passes w a v x g in
    let k = rest_typed s a b bs e t (λ q. absurd (lies (subst (Fine (bool_type only_false)) r (has_fine s.schema o w a s refl t only_false v z h q c)))) ty out d in
    record {
      what = k.0;
      declared = k.1;
      of_type = value_read s.schema o w a t k.0 v x z h k.1 c g;
      is_simple = simple_lookup s.schema o t a k.0 z k.1;
      type = k.2.0;
      facts = k.2.1;
      typed = k.2.2;
    }
  where
    lies : false ≡ true → ⊥
    lies q = cc
