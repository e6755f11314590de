-- Relations on violations and counts, and the lists and counts that they have, through each combinator.
use Rattle.std.proofs.Common.{◌≡◌, ◌↔◌, ℕ, zero, suc, ◌+◌, ◌<◌, ◌≤◌, max, Bool, true, false, List, [], ◌∷◌, ◌++◌, Option, Some, None, refl, sym, ap, ◌∙◌, subst, ◌⊎◌, inl, inr, ⊎_elim, arith}
use Rattle.std.specs.Prelude.{Contains, nat_le, nat_lt, if◌then◌else◌, option_map, MatchBool}
use Rattle.std.proofs.lemmas.Bool.Decides.{leb_tells}
use Rattle.std.proofs.lemmas.List.Elements.{Contains-append_left, Contains-append_right, Contains-append_cases}
use Rattle.cedar_expr_model.specs.Tree.{Tree}
use Rattle.cedar_expr_model.proofs.Lists.{contains_head, contains_none, contains_cases, contains_tail}
use Rattle.cedar_schema_model.specs.Types.{BoolType, only_true, only_false, Ty, bool_type}
use Rattle.cedar_typechecker_model.specs.Facts.{Facts}
use Rattle.cedar_typechecker_model.specs.Typing.{Judgement}
use Rattle.cedar_typechecker_model.specs.Levels.{Violation, Count, count, joined, further, needed, stepped, is_entity, unless_false, unless_true, branches, after_test, target_after_test, path_violations, after}
use Rattle.cedar_typechecker_model.specs.Dereferences.{ByType, Behind, Branch, AfterTest, BranchCount, CountAfterTest, Further, is_entity_type, TooFar}
use Rattle.cedar_typechecker_model.proofs.Exact.{Exact, of_parts}
use Rattle.cedar_typechecker_model.proofs.Named.{greater}

-- a number above zero
abbrev is_positive : ℕ → Bool
is_positive k = nat_lt 0 k

positive_next : (k : ℕ) → is_positive (suc k) ≡ true
positive_next k = grind arith

-- the list has what the relation holds of, and nothing else
pub record Lists (R : Violation → Type 0) (vs : List Violation) : Type 0 where
  pub has : (v : Violation) → R v → Contains vs v
  pub only : (v : Violation) → Contains vs v → R v

-- the count is the one that the relation holds of, with the violations that the other holds of
pub record Counts (K : ℕ → Type 0) (T : Violation → Type 0) (c : Count) : Type 0 where
  pub alone : (k : ℕ) → K k → k ≡ c.steps
  pub here : K c.steps
  pub found : Lists T c.found

pub lists_same : (R S : Violation → Type 0) (vs : List Violation) → Lists R vs → ((v : Violation) → S v ↔ R v) → Lists S vs
lists_same R S vs l e = record { has = λ v h. l.has v ((e v).0 h); only = λ v h. (e v).1 (l.only v h) }

pub counts_same : (K L : ℕ → Type 0) (T U : Violation → Type 0) (c : Count) → Counts K T c → ((k : ℕ) → L k ↔ K k) → ((v : Violation) → U v ↔ T v) → Counts L U c
counts_same K L T U c l e d = record { alone = λ k h. l.alone k ((e k).0 h); here = (e c.steps).1 l.here; found = lists_same T U c.found l.found d }

pub lists_none : Lists (λ v. ⊥) []
lists_none = record { has = λ v h. absurd h; only = λ v h. contains_none v h }

pub lists_one : (w : Violation) → Lists (λ v. v ≡ w) (w ∷ [])
lists_one w = record {
  has = λ v e. subst (Contains (w ∷ [])) (sym e) (contains_head w []);
  only = λ v h. contains_cases (v ≡ w) w [] v h (λ q. sym q) (λ k. absurd (contains_none v k));
}

pub lists_both : (R S : Violation → Type 0) (vs ws : List Violation) → Lists R vs → Lists S ws → Lists (λ v. R v ⊎ S v) (vs ++ ws)
lists_both R S vs ws l m = record {
  has = λ v h. ⊎_elim (λ k. Contains-append_left vs ws v (l.has v k)) (λ k. Contains-append_right vs ws v (m.has v k)) h;
  only = λ v h. ⊎_elim (λ k. inl (l.only v k)) (λ k. inr (m.only v k)) (Contains-append_cases vs ws v h);
}

pub lists_where : (b : Bool) (R S : Violation → Type 0) (vs ws : List Violation) → Lists R vs → Lists S ws → Lists (λ v. MatchBool b (R v) (S v)) (if b then vs else ws)
lists_where true R S vs ws l m = l
lists_where false R S vs ws l m = m

pub counts_zero : Counts (λ k. k ≡ 0) (λ v. ⊥) (count 0 [])
counts_zero = record { alone = λ k e. e; here = refl; found = lists_none }

pub counts_joined : (R : Violation → Type 0) (K : ℕ → Type 0) (T : Violation → Type 0) (vs : List Violation) (c : Count) → Lists R vs → Counts K T c → Counts K (λ v. R v ⊎ T v) (joined vs c)
counts_joined R K T vs c l m = record { alone = m.alone; here = m.here; found = lists_both R T vs c.found l m.found }

pub counts_further : (more : ℕ) (K : ℕ → Type 0) (T : Violation → Type 0) (c : Count) → Counts K T c → Counts (Further more K) T (further more c)
counts_further more K T c m = record { alone = λ k h. h.2 ∙ ap (λ x. x + more) (m.alone h.0 h.1); here = (c.steps, m.here, refl); found = m.found }

pub counts_where : (b : Bool) (K L : ℕ → Type 0) (T U : Violation → Type 0) (c d : Count) → Counts K T c → Counts L U d → Counts (λ k. MatchBool b (K k) (L k)) (λ v. MatchBool b (T v) (U v)) (if b then c else d)
counts_where true K L T U c d l m = l
counts_where false K L T U c d l m = m

-- a step from a target
too_far : (n : ℕ) (e : Tree) (more : ℕ) (K : ℕ → Type 0) (T : Violation → Type 0) (c : Count) → Counts K T c → (b : Bool) → nat_le (c.steps + more) n ≡ b →
    Lists (λ v. TooFar n e more K v ⊎ T v) (if b then c.found else (record { at = e; required = Some (needed (c.steps + more)) } ∷ c.found))
too_far n e more K T c m true h = record {
  has = λ v k. ⊎_elim (λ f. (let q : f.0 ≡ c.steps = m.alone f.0 f.1 in let l : n < f.0 + more = f.2 in let w : c.steps + more ≤ n = grind (arith, leb_tells (c.steps + more) n, h) in absurd (omega (arith, q, l, w)))) (λ t. m.found.has v t) k;
  only = λ v k. inr (m.found.only v k);
}
too_far n e more K T c m false h = record {
  has = λ v k. ⊎_elim
      (λ f. (let q : c.steps ≡ f.0 = sym (m.alone f.0 f.1) in let p : v ≡ record { at = e; required = Some (needed (c.steps + more)) } = f.3 ∙ ap (λ x. record { at = e; required = Some (needed (x + more)) }) (sym q) in
      subst (Contains (record { at = e; required = Some (needed (c.steps + more)) } ∷ c.found)) (sym p) (contains_head _ c.found)))
      (λ t. contains_tail _ c.found v (m.found.has v t)) k;
  only = λ v k. contains_cases (TooFar n e more K v ⊎ T v) (record { at = e; required = Some (needed (c.steps + more)) }) c.found v k
      (λ q. inl (c.steps, m.here, grind (arith, leb_tells (c.steps + more) n, h), sym q)) (λ t. inr (m.found.only v t));
}

pub lists_stepped : (n : ℕ) (e : Tree) (more : ℕ) (K : ℕ → Type 0) (T : Violation → Type 0) (c : Count) → Counts K T c → Lists (λ v. TooFar n e more K v ⊎ T v) (stepped n e (further more c))
lists_stepped n e more K T c m = too_far n e more K T c m (nat_le (c.steps + more) n) refl

-- What is said by the type of a part, where the one judgement of the part is known.
module _ (P : Ty → Facts → Type 0) (j : Judgement) (x : Exact P (Some j)) where
  judged_is : (t : Ty) (f : Facts) → P t f → j ≡ of_parts t f
  judged_is t f p = let e : Some j ≡ Some (of_parts t f) = x.only t f p in cc

  here_judged : P j.type j.facts
  here_judged = x.gives j.type j.facts refl

  by_type_true : (test : Ty → Bool) (A : Ty → Type 0) (B : Type 0) → test j.type ≡ true → ByType P test A B ↔ A j.type
  by_type_true test A B e = (
    λ h. ⊎_elim (λ k. subst (λ (y : Judgement). A y.type) (sym (judged_is k.0 k.1 k.2)) k.4) (λ k. (let d = k.0 j.type j.facts here_judged in cc)) h,
    λ a. inl (j.type, j.facts, here_judged, e, a),
  )

  by_type_false : (test : Ty → Bool) (A : Ty → Type 0) (B : Type 0) → test j.type ≡ false → ByType P test A B ↔ B
  by_type_false test A B e = (
    λ h. ⊎_elim (λ k. (let d = ap (λ (y : Judgement). test y.type) (judged_is k.0 k.1 k.2) in let c = k.3 in cc)) (λ k. k.1) h,
    λ b. inr ((λ t f p. ap (λ (y : Judgement). test y.type) (sym (judged_is t f p)) ∙ e), b),
  )

  after_some : (A : Facts → Type 0) (B : Type 0) → AfterTest P A B ↔ Branch j.type (A j.facts) B
  after_some A B = (
    λ h. subst (λ (y : Judgement). Branch y.type (A y.facts) B) (sym (judged_is h.0 h.1 h.2)) h.3,
    λ h. (j.type, j.facts, here_judged, h),
  )

  count_some : (K : Facts → ℕ → Type 0) (L : ℕ → Type 0) (k : ℕ) → CountAfterTest P K L k ↔ BranchCount j.type (K j.facts) L k
  count_some K L k = (
    λ h. ⊎_elim (λ w. subst (λ (y : Judgement). BranchCount y.type (K y.facts) L k) (sym (judged_is w.0 w.1 w.2)) w.3) (λ w. absurd (w.0 j.type j.facts here_judged)) h,
    λ h. inl (j.type, j.facts, here_judged, h),
  )

  behind_some : (b : BoolType) (A : Facts → Type 0) → (j.type ≡ bool_type b → ⊥) → Behind P b A ↔ A j.facts
  behind_some b A n = (
    λ h. subst (λ (y : Judgement). A y.facts) (sym (judged_is h.0 h.1 h.2)) h.4,
    λ a. (j.type, j.facts, here_judged, n, a),
  )

  behind_end : (b : BoolType) (A : Facts → Type 0) → j.type ≡ bool_type b → Behind P b A ↔ ⊥
  behind_end b A e = (λ h. h.3 (ap (λ (y : Judgement). y.type) (sym (judged_is h.0 h.1 h.2)) ∙ e), λ h. absurd h)

-- what is said where the part has no judgement
module _ (P : Ty → Facts → Type 0) (x : Exact P None) where
  no_judgement : (t : Ty) (f : Facts) → P t f → ⊥
  no_judgement t f p = let e : None ≡ Some (of_parts t f) = x.only t f p in cc

  by_type_none : (test : Ty → Bool) (A : Ty → Type 0) (B : Type 0) → ByType P test A B ↔ B
  by_type_none test A B = (λ h. ⊎_elim (λ k. absurd (no_judgement k.0 k.1 k.2)) (λ k. k.1) h, λ b. inr ((λ t f p. absurd (no_judgement t f p)), b))

  after_none : (A : Facts → Type 0) (B : Type 0) → AfterTest P A B ↔ ⊥
  after_none A B = (λ h. no_judgement h.0 h.1 h.2, λ h. absurd h)

  count_none : (K : Facts → ℕ → Type 0) (L : ℕ → Type 0) (k : ℕ) → CountAfterTest P K L k ↔ (k ≡ 0)
  count_none K L k = (λ h. ⊎_elim (λ w. absurd (no_judgement w.0 w.1 w.2)) (λ w. w.1) h, λ e. inr (no_judgement, e))

  behind_none : (b : BoolType) (A : Facts → Type 0) → Behind P b A ↔ ⊥
  behind_none b A = (λ h. no_judgement h.0 h.1 h.2, λ h. absurd h)

same : (A : Type 0) → A ↔ A
same A = (λ a. a, λ a. a)

-- the right side of `and`, and of `or`
lists_unless_false : (P : Ty → Facts → Type 0) (t : Ty) (f : Facts) (x : Exact P (Some (of_parts t f))) (R : Facts → Violation → Type 0) (vs : List Violation) → Lists (R f) vs → Lists (λ v. Behind P only_false (λ g. R g v)) (unless_false t vs)
lists_unless_false P (bool_type only_false) f x R vs l = lists_same _ _ _ lists_none (λ v. behind_end P _ x only_false (λ g. R g v) refl)
lists_unless_false P t f x R vs l = lists_same _ _ _ l (λ v. behind_some P _ x only_false (λ g. R g v) (λ e. cc))

lists_unless_true : (P : Ty → Facts → Type 0) (t : Ty) (f : Facts) (x : Exact P (Some (of_parts t f))) (R : Facts → Violation → Type 0) (vs : List Violation) → Lists (R f) vs → Lists (λ v. Behind P only_true (λ g. R g v)) (unless_true t vs)
lists_unless_true P (bool_type only_true) f x R vs l = lists_same _ _ _ lists_none (λ v. behind_end P _ x only_true (λ g. R g v) refl)
lists_unless_true P t f x R vs l = lists_same _ _ _ l (λ v. behind_some P _ x only_true (λ g. R g v) (λ e. cc))

pub lists_and : (P : Ty → Facts → Type 0) (o : Option Judgement) → Exact P o → (R : Facts → Violation → Type 0) (vs : Facts → List Violation) → ((f : Facts) → Lists (R f) (vs f)) → Lists (λ v. Behind P only_false (λ f. R f v)) (after unless_false o vs)
lists_and P None x R vs l = lists_same _ _ _ lists_none (λ v. behind_none P x only_false (λ f. R f v))
lists_and P (Some j) x R vs l = lists_unless_false P j.type j.facts x R (vs j.facts) (l j.facts)

pub lists_or : (P : Ty → Facts → Type 0) (o : Option Judgement) → Exact P o → (R : Violation → Type 0) (vs : List Violation) → Lists R vs → Lists (λ v. Behind P only_true (λ f. R v)) (after unless_true o (λ f. vs))
lists_or P None x R vs l = lists_same _ _ _ lists_none (λ v. behind_none P x only_true (λ f. R v))
lists_or P (Some j) x R vs l = lists_unless_true P j.type j.facts x (λ f. R) vs l

-- the branches of a choice
lists_branches : (t : Ty) (R S : Violation → Type 0) (vs ws : List Violation) → Lists R vs → Lists S ws → Lists (λ v. Branch t (R v) (S v)) (branches (λ us xs. us ++ xs) t vs ws)
lists_branches (bool_type only_true) R S vs ws l m = l
lists_branches (bool_type only_false) R S vs ws l m = m
lists_branches t R S vs ws l m = lists_both R S vs ws l m

pub lists_test : (P : Ty → Facts → Type 0) (o : Option Judgement) → Exact P o → (R : Facts → Violation → Type 0) (S : Violation → Type 0) (vs : Facts → List Violation) (ws : List Violation) → ((f : Facts) → Lists (R f) (vs f)) → Lists S ws →
    Lists (λ v. AfterTest P (λ f. R f v) (S v)) (after_test o vs ws)
lists_test P None x R S vs ws l m = lists_same _ _ _ lists_none (λ v. after_none P x (λ f. R f v) (S v))
lists_test P (Some j) x R S vs ws l m = lists_same _ _ _ (lists_branches j.type (R j.facts) S (vs j.facts) ws (l j.facts) m) (λ v. after_some P j x (λ f. R f v) (S v))

counts_greater : (K L : ℕ → Type 0) (T U : Violation → Type 0) (c d : Count) → Counts K T c → Counts L U d → Counts (λ k. (i : ℕ) × (j : ℕ) × K i × L j × (k ≡ max i j)) (λ v. T v ⊎ U v) (greater c d)
counts_greater K L T U c d l m = record {
  alone = λ k h. (let p : h.0 ≡ c.steps = l.alone h.0 h.2 in let q : h.1 ≡ d.steps = m.alone h.1 h.3 in let r : k ≡ max h.0 h.1 = h.4 in cc);
  here = (c.steps, d.steps, l.here, m.here, refl);
  found = lists_both T U c.found d.found l.found m.found;
}

counts_branches : (t : Ty) (K L : ℕ → Type 0) (T U : Violation → Type 0) (c d : Count) → Counts K T c → Counts L U d → Counts (BranchCount t K L) (λ v. Branch t (T v) (U v)) (branches greater t c d)
counts_branches (bool_type only_true) K L T U c d l m = l
counts_branches (bool_type only_false) K L T U c d l m = m
counts_branches t K L T U c d l m = counts_greater K L T U c d l m

pub counts_test : (P : Ty → Facts → Type 0) (o : Option Judgement) → Exact P o → (K : Facts → ℕ → Type 0) (L : ℕ → Type 0) (T : Facts → Violation → Type 0) (U : Violation → Type 0) (c : Facts → Count) (d : Count) → ((f : Facts) → Counts (K f) (T f) (c f)) → Counts L U d →
    Counts (CountAfterTest P K L) (λ v. AfterTest P (λ f. T f v) (U v)) (target_after_test o c d)
counts_test P None x K L T U c d l m = counts_same _ _ _ _ _ counts_zero (λ k. count_none P x K L k) (λ v. after_none P x (λ f. T f v) (U v))
counts_test P (Some j) x K L T U c d l m = counts_same _ _ _ _ _ (counts_branches j.type (K j.facts) L (T j.facts) U (c j.facts) d (l j.facts) m) (λ k. count_some P j x K L k) (λ v. after_some P j x (λ f. T f v) (U v))

-- an attribute, by whether it stands on an entity
stands_list : (P : Ty → Facts → Type 0) (j : Judgement) → Exact P (Some j) → (R S : Violation → Type 0) (vs ws : List Violation) → Lists R vs → Lists S ws → (b : Bool) → is_entity (Some j.type) ≡ b → Lists (λ v. ByType P is_entity_type (λ t. R v) (S v)) (if b then vs else ws)
stands_list P j x R S vs ws l m true e = lists_same _ _ _ l (λ v. by_type_true P j x is_entity_type (λ t. R v) (S v) e)
stands_list P j x R S vs ws l m false e = lists_same _ _ _ m (λ v. by_type_false P j x is_entity_type (λ t. R v) (S v) e)

pub lists_standing : (P : Ty → Facts → Type 0) (o : Option Judgement) → Exact P o → (R S : Violation → Type 0) (vs ws : List Violation) → Lists R vs → Lists S ws → Lists (λ v. ByType P is_entity_type (λ t. R v) (S v)) (if is_entity (option_map (λ j. j.type) o) then vs else ws)
lists_standing P None x R S vs ws l m = lists_same _ _ _ m (λ v. by_type_none P x is_entity_type (λ t. R v) (S v))
lists_standing P (Some j) x R S vs ws l m = stands_list P j x R S vs ws l m (is_entity (Some j.type)) refl

stands_count : (P : Ty → Facts → Type 0) (j : Judgement) → Exact P (Some j) → (K L : ℕ → Type 0) (T U : Violation → Type 0) (c d : Count) → Counts K T c → Counts L U d → (b : Bool) → is_entity (Some j.type) ≡ b →
    Counts (λ k. ByType P is_entity_type (λ t. K k) (L k)) (λ v. ByType P is_entity_type (λ t. T v) (U v)) (if b then c else d)
stands_count P j x K L T U c d l m true e = counts_same _ _ _ _ _ l (λ k. by_type_true P j x is_entity_type (λ t. K k) (L k) e) (λ v. by_type_true P j x is_entity_type (λ t. T v) (U v) e)
stands_count P j x K L T U c d l m false e = counts_same _ _ _ _ _ m (λ k. by_type_false P j x is_entity_type (λ t. K k) (L k) e) (λ v. by_type_false P j x is_entity_type (λ t. T v) (U v) e)

pub counts_standing : (P : Ty → Facts → Type 0) (o : Option Judgement) → Exact P o → (K L : ℕ → Type 0) (T U : Violation → Type 0) (c d : Count) → Counts K T c → Counts L U d →
    Counts (λ k. ByType P is_entity_type (λ t. K k) (L k)) (λ v. ByType P is_entity_type (λ t. T v) (U v)) (if is_entity (option_map (λ j. j.type) o) then c else d)
counts_standing P None x K L T U c d l m = counts_same _ _ _ _ _ m (λ k. by_type_none P x is_entity_type (λ t. K k) (L k)) (λ v. by_type_none P x is_entity_type (λ t. T v) (U v))
counts_standing P (Some j) x K L T U c d l m = stands_count P j x K L T U c d l m (is_entity (Some j.type)) refl

-- a path, by how many of its steps stand on an entity
path_list : (n : ℕ) (e : Tree) (m : ℕ) (K : ℕ → Type 0) (T : Violation → Type 0) (c : Count) (P : Ty → Facts → Type 0) (j : Judgement) → Exact P (Some j) → (steps : Ty → ℕ) (A : Ty → Violation → Type 0) (S : Violation → Type 0) (ws : List Violation) → Counts K T c → Lists S ws →
    steps j.type ≡ m → ((v : Violation) → A j.type v ↔ (TooFar n e m K v ⊎ T v)) →
    Lists (λ v. ByType P (λ t. is_positive (steps t)) (λ t. A t v) (S v)) (path_violations n e m c ws)
path_list n e zero K T c P j x steps A S ws l m q a = lists_same _ _ _ m (λ v. by_type_false P j x (λ t. is_positive (steps t)) (λ t. A t v) (S v) (ap is_positive q))
path_list n e (suc k) K T c P j x steps A S ws l m q a =
    lists_same _ _ _ (lists_stepped n e (suc k) K T c l) (λ v. (
      λ h. (a v).0 ((by_type_true P j x (λ t. is_positive (steps t)) (λ t. A t v) (S v) (ap is_positive q ∙ positive_next k)).0 h),
      λ h. (by_type_true P j x (λ t. is_positive (steps t)) (λ t. A t v) (S v) (ap is_positive q ∙ positive_next k)).1 ((a v).1 h),
    ))

pub lists_path : {X : Type 0} (n : ℕ) (e : Tree) (P : Ty → Facts → Type 0) (o : Option Judgement) → Exact P o → (steps : Option Ty → ℕ) → steps None ≡ 0 → (path : Option Ty → X) (K : X → ℕ → Type 0) (T : X → Violation → Type 0) (c : X → Count) (S : Violation → Type 0) (ws : List Violation) → ((p : X) → Counts (K p) (T p) (c p)) → Lists S ws →
    Lists (λ v. ByType P (λ t. is_positive (steps (Some t))) (λ t. TooFar n e (steps (Some t)) (K (path (Some t))) v ⊎ T (path (Some t)) v) (S v)) (path_violations n e (steps (option_map (λ j. j.type) o)) (c (path (option_map (λ j. j.type) o))) ws)
lists_path n e P None x steps z path K T c S ws l m = rw z (lists_same _ _ _ m (λ v. by_type_none P x _ _ (S v)))
lists_path n e P (Some j) x steps z path K T c S ws l m =
    path_list n e (steps (Some j.type)) (K (path (Some j.type))) (T (path (Some j.type))) (c (path (Some j.type))) P j x (λ t. steps (Some t)) (λ t v. TooFar n e (steps (Some t)) (K (path (Some t))) v ⊎ T (path (Some t)) v) S ws (l (path (Some j.type))) m refl (λ v. same _)
