-- Operators of which an operand is a residual, and what the annotations of unknowns decide.
use Rattle.std.proofs.Common.{◌≡◌, Bool, true, false, cond, not, refl, sym, ap, ◌∙◌, subst}
use Rattle.std.specs.Prelude.{Option, Some, None}
use Rattle.cedar_expr_model.specs.Name.{Name, name_eq}
use Rattle.cedar_expr_model.specs.Value.{truth, long, text, entity, V, prim, set_of, record_of, extension}
use Rattle.cedar_expr_model.specs.Order.{value_eq}
use Rattle.cedar_expr_model.specs.Substitution.{core_type_of}
use Rattle.cedar_expr_model.specs.Tree.{entity_core, BinaryOp, equal, Tree, unknown, binary}
use Rattle.cedar_expr_model.specs.Made.{Made, made_prim, bare}
use Rattle.cedar_expr_model.proofs.Equality.{name_eq-Decides}
use Rattle.cedar_expr_model.proofs.ValueOrder.{values_decide}
use Rattle.cedar_store_model.specs.Outcome.{Res, val, err, bind}
use Rattle.cedar_store_model.specs.World.{World}
use Rattle.cedar_store_model.specs.Operators.{says, of_type}
use Rattle.cedar_store_model.proofs.Named.{bound_value}
use Rattle.cedar_store_model.specs.Meaning.{combined, outcome_of}
use Rattle.cedar_store_model.specs.OfLaws.Extends.{Keeps}
use Rattle.cedar_evaluator_model.specs.Scope.{residual}
use Rattle.cedar_evaluator_model.specs.Steps.{truth_left, kind_of_value, kind_of_unknown, differ, with_residual}
use Rattle.cedar_evaluator_model.specs.Completion.{Fits}
use Rattle.cedar_evaluator_model.proofs.Named.{FitsIn, is_of_residual}
use Rattle.cedar_evaluator_model.proofs.Residuals.Stands.{Alike, Stands, alike_same, alike_bind}

-- the outcome is a uid of this entity type, where one is named
abbrev pub IsUidOf : Option Name → Option (Res V) → Type 0
IsUidOf None o = Unit {0}
IsUidOf (Some k) None = Unit {0}
IsUidOf (Some k) (Some (val v)) = core_type_of v ≡ entity_core k
IsUidOf (Some k) (Some (err f)) = ⊥

literal_kind : (k : Name) (v : V) (o : Option (Res V)) → core_type_of v ≡ entity_core k → Keeps o (Some (val v)) → IsUidOf (Some k) o
literal_kind k v None e h = tt
literal_kind k v (Some (val x)) e h = let same : v ≡ x = cc in subst (λ y. core_type_of y ≡ entity_core k) same e
literal_kind k v (Some (err f)) e h = cc

pub value_kind : (m : Made) (o : Option (Res V)) → Keeps o (Some (val (bare m))) → IsUidOf (kind_of_value m) o
value_kind (made_prim (entity u)) o h = literal_kind u.kind (prim (entity u)) o refl h
value_kind m o h = tt

bound_kind : (k : Name) (q : Option V) (o : Option (Res V)) → Fits (Some (entity_core k)) q → Alike o (bound_value q) → IsUidOf (Some k) o
bound_kind k q None f h = tt
bound_kind k None (Some (val v)) f h = cc
bound_kind k (Some x) (Some (val v)) f h = let same : x ≡ v = cc in subst (λ y. core_type_of y ≡ entity_core k) same (sym f)
bound_kind k None (Some (err e)) f h = let g : None ≡ Some (err h.0) = h.1 in cc
bound_kind k (Some x) (Some (err e)) f h = let g : Some (val x) ≡ Some (err h.0) = h.1 in cc

pub unknown_kind : (w : World) (r : Tree) (o : Option (Res V)) → FitsIn w r → Alike o (outcome_of w r) → IsUidOf (kind_of_unknown r) o
unknown_kind w (unknown n (Some (entity_core k))) o f h = bound_kind k (w.unknowns n) o f h
unknown_kind w r o f h = tt

-- uids of two types are not equal
apart_case : (b : Bool) (j k : Name) (v x : V) → value_eq v x ≡ b → core_type_of v ≡ entity_core j → core_type_of x ≡ entity_core k → not (name_eq j k) ≡ true → b ≡ false
apart_case true j k v x e h g d =
    let same : v ≡ x = (values_decide v x).0 e in
    let kinds : entity_core j ≡ entity_core k = sym h ∙ ap core_type_of same ∙ g in
    let names : j ≡ k = cc in
    let eq : name_eq j k ≡ true = (name_eq-Decides j k).1 names in
    let no : not true ≡ true = ap not (sym eq) ∙ d in
    cc
apart_case false j k v x e h g d = refl

pub differ_apart : (w : World) (j k : Option Name) (o p : Option (Res V)) → IsUidOf j o → IsUidOf k p → differ j k ≡ true
    → Stands w (bind o (λ v. bind p (λ x. Some (says (value_eq v x))))) (truth_left false)
differ_apart w None k o p h g d = cc
differ_apart w (Some j) None o p h g d = cc
differ_apart w (Some j) (Some k) None p h g d = (tt, tt)
differ_apart w (Some j) (Some k) (Some (err e)) p h g d = absurd h
differ_apart w (Some j) (Some k) (Some (val v)) None h g d = (tt, tt)
differ_apart w (Some j) (Some k) (Some (val v)) (Some (err e)) h g d = absurd g
differ_apart w (Some j) (Some k) (Some (val v)) (Some (val x)) h g d = (ap (λ b. Some (says b)) (sym (apart_case (value_eq v x) j k v x refl h g d)), tt)

-- an operator of two operands stays
pub stays : (w : World) (c : BinaryOp) (o p : Option (Res V)) (a b : Tree) → Alike o (outcome_of w a) → Alike p (outcome_of w b) → FitsIn w a → FitsIn w b
    → Stands w (bind o (λ v. bind p (combined w c v))) (residual (binary c a b))
stays w c o p a b h g f e = (
  alike_bind o (outcome_of w a) (λ v. bind p (combined w c v)) (λ v. bind (outcome_of w b) (combined w c v)) h
      (λ v. alike_bind p (outcome_of w b) (combined w c v) (combined w c v) g (λ x. alike_same (combined w c v x))),
  (f, e),
)

differ_case : (w : World) (d : Bool) (o p : Option (Res V)) (a b : Tree) → (d ≡ true → Stands w (bind o (λ v. bind p (combined w equal v))) (truth_left false))
    → Stands w (bind o (λ v. bind p (combined w equal v))) (residual (binary equal a b))
    → Stands w (bind o (λ v. bind p (combined w equal v))) (cond d (truth_left false) (residual (binary equal a b)))
differ_case w true o p a b h g = h refl
differ_case w false o p a b h g = g

pub stands_with : (w : World) (c : BinaryOp) (j k : Option Name) (o p : Option (Res V)) (a b : Tree) → Alike o (outcome_of w a) → Alike p (outcome_of w b) → FitsIn w a
    → FitsIn w b → IsUidOf j o → IsUidOf k p → Stands w (bind o (λ v. bind p (combined w c v))) (with_residual c j k a b)
stands_with w equal j k o p a b h g f e x y = differ_case w (differ j k) o p a b (differ_apart w j k o p x y) (stays w equal o p a b h g f e)
stands_with w c j k o p a b h g f e x y = stays w c o p a b h g f e

-- `is` of an unknown with an entity type is decided by it
is_kind : (n k : Name) (v : V) → core_type_of v ≡ entity_core k → of_type n v ≡ says (name_eq k n)
is_kind n k (prim (entity u)) e = let same : u.kind ≡ k = cc in ap (λ x. says (name_eq x n)) same
is_kind n k (prim (truth b)) e = cc
is_kind n k (prim (long i)) e = cc
is_kind n k (prim (text t)) e = cc
is_kind n k (set_of vs) e = cc
is_kind n k (record_of fs) e = cc
is_kind n k (extension m t) e = cc

is_decided : (w : World) (n k : Name) (o : Option (Res V)) → IsUidOf (Some k) o → Stands w (bind o (λ v. Some (of_type n v))) (truth_left (name_eq k n))
is_decided w n k None h = (tt, tt)
is_decided w n k (Some (val v)) h = (ap Some (sym (is_kind n k v h)), tt)
is_decided w n k (Some (err e)) h = absurd h

pub stands_is : (w : World) (n : Name) (r : Tree) (o : Option (Res V)) → FitsIn w r → Alike o (outcome_of w r) → Stands w (bind o (λ v. Some (of_type n v))) (is_of_residual n r)
stands_is w n (unknown x (Some (entity_core k))) o f h = is_decided w n k o (bound_kind k (w.unknowns x) o f h)
stands_is w n r o f h = (alike_bind o (outcome_of w r) (λ v. Some (of_type n v)) (λ v. Some (of_type n v)) h (λ v. alike_same (Some (of_type n v))), f)
