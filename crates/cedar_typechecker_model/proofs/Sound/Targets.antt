-- Targets whose look-ups are near enough, by the kinds of targets.
use Rattle.std.proofs.Common.{◌≡◌, ◌≤◌, ◌+◌, ◌||◌, ◌⊎◌, inl, inr, ⊎_elim, ℕ, zero, suc, arith, Bool, true, false, List, [], ◌∷◌, Option, Some, None, refl, sym, ap, ◌∙◌, subst}
use Rattle.std.specs.Prelude.{if◌then◌else◌}
use Rattle.std.specs.Str.{bytes_eq}
use Rattle.cedar_expr_model.specs.Name.{Text}
use Rattle.cedar_expr_model.specs.Uid.{Uid, uid_eq}
use Rattle.cedar_expr_model.specs.Parts.{subexpressions}
use Rattle.cedar_expr_model.specs.Table.{Table}
use Rattle.cedar_expr_model.specs.Tree.{Var, principal, action, resource, context, BinaryOp, is_in, get_tag, has_tag, Tree, lit, choice, binary, get_attr, has_path, record_literal, TreeFields, tree_field}
use Rattle.cedar_expr_model.specs.Value.{Literal, truth, long, text, entity, V, prim, record_of, Fields, field, field_of, truth_value}
use Rattle.cedar_expr_model.proofs.Equality.{uid_eq-Decides}
use Rattle.cedar_store_model.specs.Outcome.{Res, val, bind}
use Rattle.cedar_store_model.specs.World.{World}
use Rattle.cedar_store_model.proofs.Named.{bound_value, tag_read}
use Rattle.cedar_store_model.specs.Meaning.{Means, variable, picked, outcome_of, field_outcomes_of, combined}
use Rattle.cedar_store_model.specs.Reads.{attribute_read}
use Rattle.cedar_store_model.specs.Looks.{WithValue, Looks, AnyFieldLooks, looks_up}
use Rattle.cedar_store_model.proofs.Meaning.{means_outcome}
use Rattle.cedar_schema_model.specs.Types.{is_closed, Ty, any_entity, entity_types, record_type, Attributes, Declared}
use Rattle.cedar_schema_model.specs.Schema.{Schema, declares_action}
use Rattle.cedar_schema_model.specs.Environment.{Environment}
use Rattle.cedar_schema_model.specs.HasType.{HasType}
use Rattle.cedar_schema_model.specs.Lookup.{lookup_attribute}
use Rattle.cedar_schema_model.proofs.Types.Lookups.{inside, test_cases}
use Rattle.cedar_typechecker_model.specs.Facts.{Facts}
use Rattle.cedar_typechecker_model.specs.Levels.{Violation, Count, count, further, stepped, is_entity, literal_count, entity_steps, fields_before, path_violations, on_entity, violations, target}
use Rattle.cedar_typechecker_model.specs.Rules.{attribute_type, has_names_once, record_literal_type}
use Rattle.cedar_typechecker_model.specs.OfLaws.Simple.{is_simple}
use Rattle.cedar_typechecker_model.specs.Soundness.{Hold, ConformsAt, Suits}
use Rattle.cedar_typechecker_model.specs.Typing.{plain, path_judged, binary_judged, Gives, Types}
use Rattle.cedar_typechecker_model.specs.Verdicts.{strictly}
use Rattle.cedar_typechecker_model.proofs.Sound.Counted.{step_within, type_is, value_from, looked_entity}
use Rattle.cedar_typechecker_model.proofs.Sound.Facts.{Good}
use Rattle.cedar_typechecker_model.proofs.Sound.Leading.{At, at_entity, leads, entity_typed, entity_leads}
use Rattle.cedar_typechecker_model.proofs.Sound.Shapes.{any_value, entity_value, record_value}
use Rattle.cedar_typechecker_model.proofs.Sound.Written.{uid_known, action_declared}
use Rattle.cedar_typechecker_model.proofs.Sound.Attributes.{Fine, field_is}
use Rattle.cedar_typechecker_model.proofs.Sound.Reached.{Nearness, Reached, reached_more, conform_at, attribute_reached, tag_reached, path_begins}
use Rattle.cedar_typechecker_model.proofs.Sound.Soundness.{SlotsIn, sound, simple_type}
use Rattle.cedar_typechecker_model.proofs.Sound.Straying.{in_leads, get_tag_leads, has_tag_leads}
use Rattle.cedar_typechecker_model.proofs.Named.{IsEntity}

-- the value of an outcome is one
pub same_value : {A : Type 0} (a b : A) → Some (val a) ≡ Some (val b) → a ≡ b
same_value {A} a b q = cc

context_known : (o : Option V) (v : V) → bound_value o ≡ Some (val v) → o ≡ Some v
context_known None v h = cc
context_known (Some y) v h = (let q : y ≡ v = cc in ap Some q)

-- a value of a type of entities is one
an_entity : (t : Ty) (v : V) → is_entity (Some t) ≡ true → HasType v t → (u : Uid) × (v ≡ prim (entity u))
an_entity any_entity v k h = any_value v h
an_entity (entity_types ns) v k h = let i = entity_value ns v h in (i.0, i.1)
an_entity t v k h = cc

-- a choice, by its branches
picked_from : (oa ob : Option (Res V)) (y v : V) → picked oa ob y ≡ Some (val v) → ((y ≡ truth_value true) × (oa ≡ Some (val v))) ⊎ ((y ≡ truth_value false) × (ob ≡ Some (val v)))
picked_from oa ob (prim (truth true)) v q = inl (refl, q)
picked_from oa ob (prim (truth false)) v q = inr (refl, q)
picked_from oa ob y v q = cc

pub declared_attribute : (b : Bool) (o : Option Declared) (ty : Ty) (out : Facts) → Gives (plain (attribute_type b o)) ty out → (d : Declared) × (o ≡ Some d) × (d.type ≡ ty)
declared_attribute b None ty out h = absurd h
declared_attribute b (Some d) ty out h = by (d.is_required || b) h
  where
    by : (c : Bool) → Gives (plain (if c then Some d.type else None)) ty out → (k : Declared) × (Some d ≡ Some k) × (k.type ≡ ty)
    by true g = (d, refl, sym g.0)
    by false g = absurd g

-- a record literal, by its fields
pub record_is : (as_ : Attributes) (ty : Ty) (out : Facts) → Gives (plain (record_literal_type as_)) ty out → ty ≡ record_type as_ is_closed
record_is as_ ty out d = by (has_names_once as_) d
  where
    by : (b : Bool) → Gives (plain (if b then Some (record_type as_ is_closed) else None)) ty out → ty ≡ record_type as_ is_closed
    by true g = g.0
    by false g = absurd g

-- the field on the path, and another
field_value_at : (b : Text) (v : V) (vs : Fields) (a : Text) (y : V) → bytes_eq a b ≡ true → field_of a (field b v vs) ≡ Some y → v ≡ y
field_value_at b v vs a y m q = inside (subst (λ z. (if z then Some v else field_of a vs) ≡ Some y) m q)

other_value_at : (b : Text) (v : V) (vs : Fields) (a : Text) (y : V) → bytes_eq a b ≡ false → field_of a (field b v vs) ≡ Some y → field_of a vs ≡ Some y
other_value_at b v vs a y m q = subst (λ z. (if z then Some v else field_of a vs) ≡ Some y) m q

module _ (s : Schema) (x : Table) (e : Environment) (w : World) (suits : Suits s x e w) (Near : ℕ → Uid → Type 0) (near : Nearness w Near) (n : ℕ) (c : (u : Uid) → Near n u → declares_action s u ≡ false → ConformsAt s w u) where
  -- What a target looks up is near enough, and so is the entity that the fields lead to.
  pub record TargetReached (t : Tree) (path : List Text) (k : ℕ) : Type 0 where
    pub looks : (u : Uid) → Looks w t u → Reached s Near n u
    pub at : (v : V) → outcome_of w t ≡ Some (val v) → (u : Uid) → At path v u → Reached s Near (suc k) u

  pub record FieldsReached (fs : TreeFields) (a : Text) (path : List Text) (k : ℕ) : Type 0 where
    pub looks : (u : Uid) → AnyFieldLooks w fs u → Reached s Near n u
    pub at : (vs : Fields) → field_outcomes_of w fs ≡ Some (val vs) → (y : V) → field_of a vs ≡ Some y → (u : Uid) → At path y u → Reached s Near (suc k) u

  pub good : (known : Facts) → Hold w known → (t : Tree) → SlotsIn w (subexpressions t) → (ty : Ty) (out : Facts) → Types (strictly s x e) known t ty out → ((u : Uid) → Looks w t u → Reached s Near n u) → Good w ty out (outcome_of w t)
  good known hold t sl ty out d l = sound s x e w suits known hold t sl (λ u k. conform_at s x e w suits Near near n c u (l u k)) ty out d

  pub simple : (known : Facts) (t : Tree) (ty : Ty) (out : Facts) → Types (strictly s x e) known t ty out → is_simple ty ≡ true
  simple known t ty out d = simple_type s x e w suits known t ty out d

  -- leaves as targets
  uid_at : (y u : Uid) (path : List Text) (b : Bool) → uid_eq y e.action ≡ b → (if b then count 0 [] else count 0 (record { at = lit (entity y); required = None } ∷ [])).found ≡ [] → At path (prim (entity y)) u → declares_action s u ≡ true
  uid_at y u path true q h a =
      let p : e.action ≡ u = sym ((uid_eq-Decides y e.action).0 q) ∙ at_entity y path u a in
      subst (λ z. declares_action s z ≡ true) p (action_declared s x e w suits)
  uid_at y u path false q h a = cc

  pub literal_at : (p : Literal) (path : List Text) → (literal_count (strictly s x e) p).found ≡ [] → (u : Uid) → At path (prim p) u → declares_action s u ≡ true
  literal_at (entity y) path h u a = uid_at y u path (uid_eq y e.action) refl h a
  literal_at (truth b) [] h u a = cc
  literal_at (truth b) (m ∷ path) h u a = (let q : prim (truth b) ≡ record_of a.0 = a.1 in cc)
  literal_at (long i) [] h u a = cc
  literal_at (long i) (m ∷ path) h u a = (let q : prim (long i) ≡ record_of a.0 = a.1 in cc)
  literal_at (text t) [] h u a = cc
  literal_at (text t) (m ∷ path) h u a = (let q : prim (text t) ≡ record_of a.0 = a.1 in cc)

  pub variable_at : (y : Var) (path : List Text) (v : V) → variable w y ≡ Some (val v) → (u : Uid) → At path v u → Reached s Near 1 u
  variable_at principal path v q u a =
      let k = uid_known w.principal v q in
      inl (near.principal u (k.1 ∙ ap Some (at_entity k.0 path u (subst (λ z. At path z u) k.2 a))))
  variable_at resource path v q u a =
      let k = uid_known w.resource v q in
      inl (near.resource u (k.1 ∙ ap Some (at_entity k.0 path u (subst (λ z. At path z u) k.2 a))))
  variable_at action path v q u a =
      let k = uid_known w.action v q in
      let p : e.action ≡ u = sym (suits.action k.0 k.1) ∙ at_entity k.0 path u (subst (λ z. At path z u) k.2 a) in
      inr (subst (λ z. declares_action s z ≡ true) p (action_declared s x e w suits))
  variable_at context path v q u a = inl (near.context v u (context_known w.context v q) (path, a))

  -- an attribute of an entity: one step further
  pub attribute_target : (t : Tree) (a : Text) (path : List Text) (k : ℕ) (ty : Ty) (f : Facts) → is_entity (Some ty) ≡ true → Good w ty f (outcome_of w t) → TargetReached t [] k → k + 1 ≤ n → TargetReached (get_attr t a) path (k + 1)
  attribute_target t a path k ty f i g r l =
      record {
        looks = λ u m. ⊎_elim (λ j. r.looks u j) (λ j. reached_more s x e w suits Near near (suc k) n u (omega (arith, l)) (r.at j.0 (means_outcome w t (val j.0) j.1) u j.2)) m;
        at = λ v q u b. (
            let o = value_from (outcome_of w t) (attribute_read w a) v q in
            let y = an_entity ty o.0 i (subst (Fine ty) o.1 g.fine) in
            let z : attribute_read w a (prim (entity y.0)) ≡ Some (val v) = subst (λ j. attribute_read w a j ≡ Some (val v)) y.1 o.2 in
            reached_more s x e w suits Near near (suc (suc k)) (suc (k + 1)) u (omega arith) (attribute_reached s x e w suits Near near (suc k) y.0 a v u (r.at o.0 o.1 y.0 y.1) z (path, b)));
      }

  -- an attribute of a record: the same distance, by one field more
  not_an_entity : (t : Tree) (ty : Ty) (f : Facts) → is_entity (Some ty) ≡ false → Good w ty f (outcome_of w t) → (v : V) → outcome_of w t ≡ Some (val v) → (u : Uid) → v ≡ prim (entity u) → ⊥
  not_an_entity t ty f i g v o u q = let k = entity_typed ty u (subst (λ z. HasType z ty) q (subst (Fine ty) o g.fine)) in cc

  pub field_target : (t : Tree) (a : Text) (path : List Text) (k : ℕ) (ty : Ty) (f : Facts) → is_entity (Some ty) ≡ false → ((v : V) → HasType v ty → (fs : Fields) × (v ≡ record_of fs)) → Good w ty f (outcome_of w t) → TargetReached t (a ∷ path) k → TargetReached (get_attr t a) path k
  field_target t a path k ty f i fields g r =
      record {
        looks = λ u m. ⊎_elim (λ j. r.looks u j) (λ j. absurd (not_an_entity t ty f i g j.0 (means_outcome w t (val j.0) j.1) u j.2)) m;
        at = λ v q u b. (
            let o = value_from (outcome_of w t) (attribute_read w a) v q in
            let y = fields o.0 (subst (Fine ty) o.1 g.fine) in
            let z : field_of a y.0 ≡ Some v = field_is (field_of a y.0) v (subst (λ j. attribute_read w a j ≡ Some (val v)) y.1 o.2) in
            r.at o.0 o.1 u (y.0, y.1, (v, z, b)));
      }

  -- a tag of an entity: one step further
  pub tag_target : (a b : Tree) (path : List Text) (k : ℕ) (ty : Ty) (f : Facts) → is_entity (Some ty) ≡ true → Good w ty f (outcome_of w a) → TargetReached a [] k → ((u : Uid) → Looks w b u → Reached s Near n u) → k + 1 ≤ n → TargetReached (binary get_tag a b) path (k + 1)
  tag_target a b path k ty f i g r right l =
      record {
        looks = λ u m. ⊎_elim (λ j. r.looks u j) (λ j. ⊎_elim (λ p. right u p) (λ p. reached_more s x e w suits Near near (suc k) n u (omega (arith, l)) (r.at j.0 (means_outcome w a (val j.0) j.1) u p.2.0)) j.2) m;
        at = λ v q u h. (
            let o = value_from (outcome_of w a) (λ j. bind (outcome_of w b) (combined w get_tag j)) v q in
            let p = value_from (outcome_of w b) (combined w get_tag o.0) v o.2 in
            let y = an_entity ty o.0 i (subst (Fine ty) o.1 g.fine) in
            let z = text_read y.0 p.0 v (subst (λ j. tag_read w j p.0 ≡ Some (val v)) y.1 p.2) in
            reached_more s x e w suits Near near (suc (suc k)) (suc (k + 1)) u (omega arith)
            (tag_reached s x e w suits Near near (suc k) y.0 z.0 v u (r.at o.0 o.1 y.0 y.1) (subst (λ j. tag_read w (prim (entity y.0)) j ≡ Some (val v)) z.1 (subst (λ j. tag_read w j p.0 ≡ Some (val v)) y.1 p.2)) (path, h)));
      }
    where
      text_read : (y : Uid) (v' v : V) → tag_read w (prim (entity y)) v' ≡ Some (val v) → (z : Text) × (v' ≡ prim (text z))
      text_read y (prim (text z)) v q = (z, refl)
      text_read y v' v q = cc

  -- an attribute, or the test of one, by what is shown of the operand
  pub attribute_looks : (t whole : Tree) (known : Facts) (ty : Ty) (f : Facts) → Types (strictly s x e) known t ty f
      → (if on_entity (strictly s x e) known t then stepped n whole (further 1 (target n (strictly s x e) known [] t)) else violations n (strictly s x e) known t) ≡ []
      → (leads ty [] ≡ true → (target n (strictly s x e) known [] t).found ≡ [] → (target n (strictly s x e) known [] t).steps ≤ n → TargetReached t [] (target n (strictly s x e) known [] t).steps)
      → (violations n (strictly s x e) known t ≡ [] → (u : Uid) → Looks w t u → Reached s Near n u) → (((u : Uid) → Looks w t u → Reached s Near n u) → Good w ty f (outcome_of w t))
      → (u : Uid) → Looks w t u ⊎ WithValue (Means w t) (λ v. IsEntity v u) → Reached s Near n u
  attribute_looks t whole known ty f d h on off g u l =
      let q : on_entity (strictly s x e) known t ≡ is_entity (Some ty) = ap is_entity (type_is (strictly s x e) known t ty f d) in
      test_cases (is_entity (Some ty))
      (λ k. let i = step_within n whole (further 1 (target n (strictly s x e) known [] t)) (subst (λ z. (if z then stepped n whole (further 1 (target n (strictly s x e) known [] t)) else violations n (strictly s x e) known t) ≡ []) (q ∙ k) h) in
      let m = i.0 in
      let r = on (entity_leads ty k) i.1 (omega (arith, m)) in
      ⊎_elim (λ j. r.looks u j) (λ j. reached_more s x e w suits Near near (suc (target n (strictly s x e) known [] t).steps) n u (omega (arith, m)) (r.at j.0 (means_outcome w t (val j.0) j.1) u j.2)) l)
      (λ k. let r = off (subst (λ z. (if z then stepped n whole (further 1 (target n (strictly s x e) known [] t)) else violations n (strictly s x e) known t) ≡ []) (q ∙ k) h) in
      ⊎_elim (λ j. r u j) (λ j. absurd (not_an_entity t ty f k (g r) j.0 (means_outcome w t (val j.0) j.1) u j.2)) l)

  pub left_leads : (known : Facts) (o : BinaryOp) (a b : Tree) (t u ty : Ty) (out : Facts) → looks_up o ≡ true → Gives (binary_judged (strictly s x e) known o a b t u) ty out → leads t [] ≡ true
  left_leads known is_in a b t u ty out q d = in_leads (strictly s x e) known a b t u ty out d
  left_leads known get_tag a b t u ty out q d = get_tag_leads (strictly s x e) known a b t u ty out d
  left_leads known has_tag a b t u ty out q d = has_tag_leads (strictly s x e) known a b t u ty out d
  left_leads known o a b t u ty out q d = cc

  -- the violations of a path: a step from its first entity, or those of its operand where it has none
  pub path_cases : (whole : Tree) (k : ℕ) (i : Count) (vs : List Violation) → path_violations n whole k i vs ≡ [] → ((k ≡ 0) × (vs ≡ [])) ⊎ ((m : ℕ) × (k ≡ suc m) × (i.found ≡ []) × (i.steps + k ≤ n))
  path_cases whole zero i vs h = inl (refl, h)
  path_cases whole (suc m) i vs h = let r = step_within n whole (further (suc m) i) h in inr (m, refl, r.1, r.0)

  pub choice_target : (t a b : Tree) (path : List Text) (k : ℕ) → ((u : Uid) → Looks w t u → Reached s Near n u)
      → (outcome_of w t ≡ Some (val (truth_value true)) → (i : ℕ) × TargetReached a path i × (i ≤ k)) → (outcome_of w t ≡ Some (val (truth_value false)) → (i : ℕ) × TargetReached b path i × (i ≤ k)) → TargetReached (choice t a b) path k
  choice_target t a b path k lt first second =
      record {
        looks = λ u m. ⊎_elim (λ j. lt u j)
            (λ j. ⊎_elim (λ i. let r = first (means_outcome w t _ i.0) in let q = r.1 in q.looks u i.1) (λ i. let r = second (means_outcome w t _ i.0) in let q = r.1 in q.looks u i.1) j) m;
        at = λ v q u h. (
            let o = value_from (outcome_of w t) (picked (outcome_of w a) (outcome_of w b)) v q in
            ⊎_elim
            (λ i. (let r = first (o.1 ∙ ap (λ z. Some (val z)) i.0) in let y = r.1 in let z = r.2 in reached_more s x e w suits Near near (suc r.0) (suc k) u (omega (arith, z)) (y.at v i.1 u h)))
            (λ i. (let r = second (o.1 ∙ ap (λ z. Some (val z)) i.0) in let y = r.1 in let z = r.2 in reached_more s x e w suits Near near (suc r.0) (suc k) u (omega (arith, z)) (y.at v i.1 u h)))
            (picked_from (outcome_of w a) (outcome_of w b) o.0 v o.2));
      }

  -- the attribute of what is no entity is a field
  pub record_of_lookup : (t : Ty) (a : Text) (d : Declared) (v : V) → is_entity (Some t) ≡ false → lookup_attribute s t a ≡ Some d → HasType v t → (fs : Fields) × (v ≡ record_of fs)
  record_of_lookup (record_type as_ o) a d v k q h = let r = record_value as_ o v h in (r.0, r.1)
  record_of_lookup (entity_types ns) a d v k q h = cc
  record_of_lookup t a d v k q h = cc

  pub record_target : (fs : TreeFields) (a : Text) (path : List Text) (k : ℕ) → FieldsReached fs a path k → TargetReached (record_literal fs) (a ∷ path) k
  record_target fs a path k r =
      record {
        looks = λ u m. r.looks u m;
        at = λ v q u h. (
            let o = value_from (field_outcomes_of w fs) (λ vs. Some (val (record_of vs))) v q in
            let i : o.0 ≡ h.0 = (let j : record_of o.0 ≡ v = same_value (record_of o.0) v o.2 in let z : record_of o.0 ≡ record_of h.0 = j ∙ h.1 in cc) in
            r.at o.0 o.1 h.2.0 (subst (λ z. field_of a z ≡ Some h.2.0) (sym i) h.2.1) u h.2.2);
      }

  -- two operands, by what is shown of each
  pub operands_looks : (o : BinaryOp) (a b : Tree) (i : Count) (whole : Tree) (vs : List Violation) → (if looks_up o then stepped n whole (further 1 i) else vs) ≡ []
      → (looks_up o ≡ true → i.found ≡ [] → i.steps ≤ n → TargetReached a [] i.steps) → (looks_up o ≡ false → (u : Uid) → Looks w a u → Reached s Near n u) → ((u : Uid) → Looks w b u → Reached s Near n u)
      → (u : Uid) → Looks w (binary o a b) u → Reached s Near n u
  operands_looks o a b i whole vs h on off right u l =
      test_cases (looks_up o)
      (λ q. let k = step_within n whole (further 1 i) (subst (λ z. (if z then stepped n whole (further 1 i) else vs) ≡ []) q h) in
      let m = k.0 in
      let r = on q k.1 (omega (arith, m)) in
      ⊎_elim (λ j. r.looks u j) (λ j. ⊎_elim (λ p. right u p) (λ p. let y = looked_entity o j.0 p.0 u p.2 in reached_more s x e w suits Near near (suc i.steps) n u (omega (arith, m)) (r.at j.0 (means_outcome w a (val j.0) j.1) u y.1)) j.2) l)
      (λ q. ⊎_elim (λ j. off q u j) (λ j. ⊎_elim (λ p. right u p) (λ p. absurd (clash q (looked_entity o j.0 p.0 u p.2).0)) j.2) l)
    where
      clash : looks_up o ≡ false → looks_up o ≡ true → ⊥
      clash q k = cc

  -- a path, by what is shown of its operand
  pub path_looks : (t : Tree) (a : Text) (bs : List Text) (known : Facts) (tt : Ty) (f : Facts) → Types (strictly s x e) known t tt f → (ty : Ty) (out : Facts) → Gives (path_judged (strictly s x e) a bs t tt) ty out → (k : ℕ)
      → ((u : Uid) → Looks w t u → Reached s Near n u) → Good w tt f (outcome_of w t)
      → ((v : V) → outcome_of w t ≡ Some (val v) → (entity_steps (strictly s x e) a bs (Some tt) ≡ 0) ⊎ (((u : Uid) → At (fields_before (strictly s x e) a bs (Some tt)) v u → Reached s Near (suc k) u) × (k + entity_steps (strictly s x e) a bs (Some tt) ≤ n)))
      → (u : Uid) → Looks w (has_path t a bs) u → Reached s Near n u
  path_looks t a bs known tt f d ty out p k lt g begins u l =
      ⊎_elim (λ j. lt u j)
      (λ j. let o = means_outcome w t (val j.0) j.1 in
      path_begins s x e w suits Near near n c bs a t tt j.0 k (simple known t tt f d) (subst (Fine tt) o g.fine) (begins j.0 o) ty out p u j.2) l

  pub first_field : (b : Text) (t : Tree) (fs : TreeFields) (a : Text) (path : List Text) (k : ℕ) → bytes_eq a b ≡ true → TargetReached t path k → ((u : Uid) → AnyFieldLooks w fs u → Reached s Near n u) → FieldsReached (tree_field b t fs) a path k
  first_field b t fs a path k m r rest =
      record {
        looks = λ u l. ⊎_elim (λ j. r.looks u j) (λ j. rest u j.2) l;
        at = λ vs q y i u h. (
            let o = value_from (outcome_of w t) (λ v. bind (field_outcomes_of w fs) (λ ys. Some (val (field b v ys)))) vs q in
            let p = value_from (field_outcomes_of w fs) (λ ys. Some (val (field b o.0 ys))) vs o.2 in
            let z : field b o.0 p.0 ≡ vs = same_value (field b o.0 p.0) vs p.2 in
            let j = field_value_at b o.0 p.0 a y m (subst (λ g. field_of a g ≡ Some y) (sym z) i) in
            r.at o.0 o.1 u (subst (λ g. At path g u) (sym j) h));
      }

  pub later_field : (b : Text) (t : Tree) (fs : TreeFields) (a : Text) (path : List Text) (k : ℕ) → bytes_eq a b ≡ false → FieldsReached fs a path k → ((u : Uid) → Looks w t u → Reached s Near n u) → FieldsReached (tree_field b t fs) a path k
  later_field b t fs a path k m r first =
      record {
        looks = λ u l. ⊎_elim (λ j. first u j) (λ j. r.looks u j.2) l;
        at = λ vs q y i u h. (
            let o = value_from (outcome_of w t) (λ v. bind (field_outcomes_of w fs) (λ ys. Some (val (field b v ys)))) vs q in
            let p = value_from (field_outcomes_of w fs) (λ ys. Some (val (field b o.0 ys))) vs o.2 in
            let z : field b o.0 p.0 ≡ vs = same_value (field b o.0 p.0) vs p.2 in
            r.at p.0 p.1 y (other_value_at b o.0 p.0 a y m (subst (λ g. field_of a g ≡ Some y) (sym z) i)) u h);
      }
