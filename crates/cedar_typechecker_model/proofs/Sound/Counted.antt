-- What no violations say of the parts of an expression.
use Rattle.std.proofs.Common.{◌≡◌, ◌≤◌, ◌+◌, ℕ, suc, arith, Bool, true, false, List, [], ◌∷◌, ◌++◌, Option, Some, None, refl, sym, ap, ◌∙◌, subst}
use Rattle.std.specs.Prelude.{nat_le, option_map, if◌then◌else◌}
use Rattle.std.proofs.lemmas.Bool.{leb-true}
use Rattle.cedar_expr_model.specs.Name.{Text}
use Rattle.cedar_expr_model.specs.Uid.{Uid}
use Rattle.cedar_expr_model.specs.Tree.{Tree, BinaryOp, is_in, get_tag, has_tag}
use Rattle.cedar_expr_model.specs.Value.{entity, V, prim, truth_value}
use Rattle.cedar_store_model.specs.Outcome.{Res, val, err, bind}
use Rattle.cedar_store_model.specs.World.{World}
use Rattle.cedar_store_model.specs.Looks.{CombinedLooks, looks_up}
use Rattle.cedar_schema_model.specs.Types.{any_bool, only_true, only_false, Ty, bool_type, entity_types, record_type, Declared, attribute_named, strict}
use Rattle.cedar_schema_model.specs.HasType.{HasType}
use Rattle.cedar_schema_model.specs.Join.{join}
use Rattle.cedar_schema_model.specs.Lookup.{lookup_attribute}
use Rattle.cedar_typechecker_model.specs.Facts.{Facts, union, intersection}
use Rattle.cedar_typechecker_model.specs.Levels.{Violation, Count, needed, stepped, is_entity, unless_false, unless_true, branches, entity_steps, fields_before}
use Rattle.cedar_typechecker_model.specs.Rules.{Setting}
use Rattle.cedar_typechecker_model.specs.OfLaws.Simple.{is_simple}
use Rattle.cedar_typechecker_model.specs.Typing.{Judgement, step_type, Gives, Types, AndTyped, OrTyped, ChoiceTyped, judgement, type_under}
use Rattle.cedar_typechecker_model.proofs.Exact.{of_parts}
use Rattle.cedar_typechecker_model.proofs.Typing.{exact}
use Rattle.cedar_schema_model.proofs.Types.Lookups.{test_cases}
use Rattle.cedar_typechecker_model.proofs.Sound.Attributes.{Fine}
use Rattle.cedar_typechecker_model.proofs.Sound.Facts.{Good}
use Rattle.cedar_typechecker_model.proofs.Sound.Leading.{leads, entity_leads, leads_named, join_leads}
use Rattle.cedar_typechecker_model.proofs.Named.{one_if, greater}

pub none_of_both : {A : Type 0} (vs ws : List A) → vs ++ ws ≡ [] → (vs ≡ []) × (ws ≡ [])
none_of_both [] ws e = (refl, e)
none_of_both (v ∷ vs) ws e = cc

-- a step from a target that is no violation is within the level
pub step_within : (n : ℕ) (e : Tree) (c : Count) → stepped n e c ≡ [] → (c.steps ≤ n) × (c.found ≡ [])
step_within n e c h = by (nat_le c.steps n) refl h
  where
    by : (b : Bool) → nat_le c.steps n ≡ b → (if b then c.found else (record { at = e; required = Some (needed c.steps) } ∷ c.found)) ≡ [] → (c.steps ≤ n) × (c.found ≡ [])
    by true q k = (leb-true c.steps n q, k)
    by false q k = cc

-- the type that a part has
pub judged_as : (s : Setting) (known : Facts) (t : Tree) (ty : Ty) (out : Facts) → Types s known t ty out → judgement s known t ≡ Some (of_parts ty out)
judged_as s known t ty out d = (exact s known t).only ty out d

pub type_is : (s : Setting) (known : Facts) (t : Tree) (ty : Ty) (out : Facts) → Types s known t ty out → type_under s known t ≡ Some ty
type_is s known t ty out d = ap (option_map (λ (j : Judgement). j.type)) (judged_as s known t ty out d)

-- the right side of a conjunction, where the left isn't False
pub behind_and : (right : Facts → Ty → Facts → Type 0) (vs : Facts → List Violation) (t : Ty) (f : Facts) (ty : Ty) (out : Facts) → AndTyped right t f ty out → unless_false t (vs f) ≡ [] → (t ≡ bool_type only_false → ⊥) → (u : Ty) × (g : Facts) × right f u g × (vs f ≡ [])
behind_and right vs (bool_type only_false) f ty out d e n = absurd (n refl)
behind_and right vs (bool_type only_true) f ty out d e n = (d.0, d.1, d.2, e)
behind_and right vs (bool_type any_bool) f ty out d e n = (d.0, d.1, d.2, e)
behind_and right vs t f ty out d e n = absurd d

pub behind_or : (right : Ty → Facts → Type 0) (vs : List Violation) (t : Ty) (f : Facts) (ty : Ty) (out : Facts) → OrTyped right t f ty out → unless_true t vs ≡ [] → (t ≡ bool_type only_true → ⊥) → (u : Ty) × (g : Facts) × right u g × (vs ≡ [])
behind_or right vs (bool_type only_true) f ty out d e n = absurd (n refl)
behind_or right vs (bool_type only_false) f ty out d e n = (d.0, d.1, d.2, e)
behind_or right vs (bool_type any_bool) f ty out d e n = (d.0, d.1, d.2, e)
behind_or right vs t f ty out d e n = absurd d

-- the branches of a choice, as far as they are typed
pub record Branches (first : Ty → Facts → Type 0) (second : Ty → Facts → Type 0) (t : Ty) (A B : Type 0) : Type 0 where
  pub on_true : (t ≡ bool_type only_false → ⊥) → (u : Ty) × (g : Facts) × first u g × A
  pub on_false : (t ≡ bool_type only_true → ⊥) → (u : Ty) × (g : Facts) × second u g × B

pub behind_test : (s : Setting) (first : Facts → Ty → Facts → Type 0) (second : Ty → Facts → Type 0) (vs : Facts → List Violation) (ws : List Violation) (t : Ty) (f : Facts) (ty : Ty) (out : Facts) → ChoiceTyped s first second t f ty out
    → branches (λ xs ys. xs ++ ys) t (vs f) ws ≡ [] → Branches (first f) second t (vs f ≡ []) (ws ≡ [])
behind_test s first second vs ws (bool_type only_true) f ty out d e = record { on_true = λ n. (d.0, d.1, d.2, e); on_false = λ n. absurd (n refl) }
behind_test s first second vs ws (bool_type only_false) f ty out d e = record { on_true = λ n. absurd (n refl); on_false = λ n. (ty, out, d, e) }
behind_test s first second vs ws (bool_type any_bool) f ty out d e =
    let k = none_of_both (vs f) ws e in
    let r = d.3 in
    record { on_true = λ n. (d.0, d.1, d.2, k.0); on_false = λ n. (r.0, r.1, r.2, k.1) }
behind_test s first second vs ws t f ty out d e = absurd d

-- a branch that is a target: its type leads where the choice's does, and it is counted
abbrev pub Counted : Count → ℕ → Type 0
Counted c k = (c.found ≡ []) × (c.steps ≤ k)

joined_leads : (j : Option Ty) (f : Facts) (ty : Ty) (out : Facts) → Gives (option_map (λ (k : Ty). record { type = k; facts = f }) j) ty out → j ≡ Some ty
joined_leads None f ty out d = absurd d
joined_leads (Some k) f ty out d = ap Some (sym d.0)

-- a type that leads there
abbrev pub Leading : (Ty → Facts → Type 0) → List Text → Ty → Facts → Type 0
Leading typed path u g = typed u g × (leads u path ≡ true)

pub target_branches : (s : Setting) → s.mode ≡ strict → (first : Facts → Ty → Facts → Type 0) (second : Ty → Facts → Type 0) → ((f : Facts) (u : Ty) (g : Facts) → first f u g → is_simple u ≡ true) → ((u : Ty) (g : Facts) → second u g → is_simple u ≡ true)
    → (c : Facts → Count) (d : Count) (path : List Text) (t : Ty) (f : Facts) (ty : Ty) (out : Facts) → ChoiceTyped s first second t f ty out → leads ty path ≡ true → (branches greater t (c f) d).found ≡ []
    → Branches (Leading (first f) path) (Leading second path) t (Counted (c f) (branches greater t (c f) d).steps) (Counted d (branches greater t (c f) d).steps)
target_branches s m first second p q c d path (bool_type only_true) f ty out h l e =
    record { on_true = λ n. (h.0, h.1, (h.2, subst (λ z. leads z path ≡ true) h.3.0 l), (e, omega arith)); on_false = λ n. absurd (n refl) }
target_branches s m first second p q c d path (bool_type only_false) f ty out h l e =
    record { on_true = λ n. absurd (n refl); on_false = λ n. (ty, out, (h, l), (e, omega arith)) }
target_branches s m first second p q c d path (bool_type any_bool) f ty out h l e =
    let k = none_of_both (c f).found d.found e in
    let r = h.3 in
    let j : join strict h.0 r.0 ≡ Some ty = subst (λ y. join y h.0 r.0 ≡ Some ty) m (joined_leads (join s.mode h.0 r.0) (intersection (union f h.1) r.1) ty out r.3) in
    let b = join_leads path h.0 r.0 ty (p f h.0 h.1 h.2) (q r.0 r.1 r.2) j l in
    record { on_true = λ n. (h.0, h.1, (h.2, b.0), (k.0, omega arith)); on_false = λ n. (r.0, r.1, (r.2, b.1), (k.1, omega arith)) }
target_branches s m first second p q c d path t f ty out h l e = absurd h

-- an outcome is no truth value that its type excludes
pub not_false : (w : World) (t : Ty) (f : Facts) (o : Option (Res V)) → Good w t f o → o ≡ Some (val (truth_value true)) → t ≡ bool_type only_false → ⊥
not_false w t f o h e q = lies (subst (λ z. HasType (truth_value true) z) q (subst (Fine t) e h.fine))
  where
    lies : false ≡ true → ⊥
    lies i = cc

pub not_true : (w : World) (t : Ty) (f : Facts) (o : Option (Res V)) → Good w t f o → o ≡ Some (val (truth_value false)) → t ≡ bool_type only_true → ⊥
not_true w t f o h e q = lies (subst (λ z. HasType (truth_value false) z) q (subst (Fine t) e h.fine))
  where
    lies : false ≡ true → ⊥
    lies i = cc

-- the value that an outcome comes from
pub value_from : {A B : Type 0} (o : Option (Res A)) (f : A → Option (Res B)) (r : B) → bind o f ≡ Some (val r) → (v : A) × (o ≡ Some (val v)) × (f v ≡ Some (val r))
value_from None f r e = cc
value_from (Some (err x)) f r e = cc
value_from (Some (val v)) f r e = (v, refl, e)

-- which operands are looked up
pub looked_entity : (o : BinaryOp) (v v' : V) (u : Uid) → CombinedLooks o v v' u → (looks_up o ≡ true) × (v ≡ prim (entity u))
looked_entity is_in v v' u h = (refl, h)
looked_entity get_tag v v' u h = (refl, h.0)
looked_entity has_tag v v' u h = (refl, h.0)
looked_entity o v v' u h = absurd h

-- a path leads to its first entity, if it has one
no_steps : (s : Setting) (a : Text) (bs : List Text) → entity_steps s a bs None ≡ 0
no_steps s a [] = refl
no_steps s a (b ∷ bs) = refl

-- an attribute of what is no entity is a field
pub field_leads : (s : Setting) (t : Ty) (a : Text) (path : List Text) (d : Declared) → is_entity (Some t) ≡ false → lookup_attribute s.schema t a ≡ Some d → leads d.type path ≡ true → leads t (a ∷ path) ≡ true
field_leads s (record_type as_ o) a path d k e h = leads_named (attribute_named a as_) path d e h
field_leads s (entity_types ns) a path d k e h = cc
field_leads s t a path d k e h = cc

pub before_leads : (s : Setting) (bs : List Text) (a : Text) (t : Ty) (m : ℕ) → entity_steps s a bs (Some t) ≡ suc m → leads t (fields_before s a bs (Some t)) ≡ true
before_leads s [] a t m e =
    test_cases (is_entity (Some t))
    (λ k. subst (λ c. leads t (if c then [] else a ∷ []) ≡ true) (sym k) (entity_leads t k))
    (λ k. (let r : one_if (is_entity (Some t)) ≡ 0 = ap one_if k in let q : 0 ≡ suc m = sym r ∙ e in absurd (omega (arith, q))))
before_leads s (b ∷ bs) a t m e =
    test_cases (is_entity (Some t))
    (λ k. subst (λ c. leads t (if c then [] else a ∷ fields_before s b bs (step_type s t a)) ≡ true) (sym k) (entity_leads t k))
    (λ k. subst (λ c. leads t (if c then [] else a ∷ fields_before s b bs (step_type s t a)) ≡ true) (sym k)
    (by (lookup_attribute s.schema t a) refl k (let r : one_if (is_entity (Some t)) ≡ 0 = ap one_if k in let q : one_if (is_entity (Some t)) + entity_steps s b bs (step_type s t a) ≡ suc m = e in omega (arith, r, q)) (λ u i. before_leads s bs b u m i)))
  where
    by : (l : Option Declared) → lookup_attribute s.schema t a ≡ l → is_entity (Some t) ≡ false → entity_steps s b bs (step_type s t a) ≡ suc m → ((u : Ty) → entity_steps s b bs (Some u) ≡ suc m → leads u (fields_before s b bs (Some u)) ≡ true)
        → leads t (a ∷ fields_before s b bs (step_type s t a)) ≡ true
    by None q k i f = let r : 0 ≡ suc m = sym (no_steps s b bs) ∙ ap (λ o. entity_steps s b bs (option_map (λ (d : Declared). d.type) o)) (sym q) ∙ i in absurd (omega (arith, r))
    by (Some d) q k i f =
        subst (λ o. leads t (a ∷ fields_before s b bs (option_map (λ (c : Declared). c.type) o)) ≡ true) (sym q)
        (field_leads s t a (fields_before s b bs (Some d.type)) d k q (f d.type (ap (λ o. entity_steps s b bs (option_map (λ (c : Declared). c.type) o)) (sym q) ∙ i)))
