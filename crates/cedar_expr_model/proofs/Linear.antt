-- Orders that tell all things apart, and how two are joined.
use Rattle.std.proofs.Common.{◌≡◌, true, false, refl, sym, ap, ◌∙◌}
use Rattle.std.specs.Ordering.{bool_cmp, ordering_then, ordering_reverse}
use Rattle.std.specs.Cmp.{IsTotalOrder}
use Rattle.std.specs.Cmp.Lexicographic.{slice_cmp}
use Rattle.std.specs.FinMap.{nat_cmp-IsAntisymmetric, slice_cmp-IsAntisymmetric}
use Rattle.std.proofs.lemmas.Cmp.{nat_list_cmp_total, lists_total, on_total, then_total, tied_itself}
use Rattle.std.specs.declared.cmp.Ordering.{Ordering}
use Rattle.std.specs.declared.cmp.Ordering.TheVariants.{Less, Equal, Greater}
use Rattle.cedar_expr_model.specs.Name.{Name, name_text}
use Rattle.cedar_expr_model.specs.Uid.{Uid}
use Rattle.cedar_expr_model.specs.Order.{text_cmp, name_order, uid_order}
use Rattle.cedar_expr_model.specs.Laws.{IsLinear}

-- an answer that is its own reverse
pub own_reverse : (r : Ordering) → r ≡ ordering_reverse r → r ≡ Equal
own_reverse Less e = cc
own_reverse Equal e = refl
own_reverse Greater e = cc

-- no difference in the first, and none in the next
pub both_equal : (r s : Ordering) → ordering_then r s ≡ Equal → (r ≡ Equal) × (s ≡ Equal)
both_equal Less s e = cc
both_equal Equal s e = (refl, e)
both_equal Greater s e = cc

pub then_reverse : (r s t u : Ordering) → r ≡ ordering_reverse t → s ≡ ordering_reverse u → ordering_then r s ≡ ordering_reverse (ordering_then t u)
then_reverse r s Less u e f = rw e refl
then_reverse r s Equal u e f = rw e f
then_reverse r s Greater u e f = rw e refl

abbrev pub Exact : {K : Type 0} → (K → K → Ordering) → Type 0
Exact {K} R = (x y : K) → R x y ≡ Equal → x ≡ y

-- By the first, and where they are the same by the next.
module _ {K : Type 0} (R : K → K → Ordering) (exact : Exact R) (itself : (x : K) → R x x ≡ Equal) where
  chain_case : (x y z : K) (a b : Ordering) → R x y ≡ a → R y z ≡ b → (a ≡ Less → b ≡ Less → R x z ≡ Less) → (s t u : Ordering) → (s ≡ Less → t ≡ Less → u ≡ Less) → ordering_then a s ≡ Less → ordering_then b t ≡ Less → ordering_then (R x z) u ≡ Less
  chain_case x y z Less Less e f g s t u h i j = rw (g refl refl) refl
  chain_case x y z Less Equal e f g s t u h i j = let q : R x z ≡ Less = ap (R x) (sym (exact y z f)) ∙ e in rw q refl
  chain_case x y z Less Greater e f g s t u h i j = cc
  chain_case x y z Equal Less e f g s t u h i j = let q : R x z ≡ Less = ap (λ k. R k z) (exact x y e) ∙ f in rw q refl
  chain_case x y z Equal Equal e f g s t u h i j = let q : R x z ≡ Equal = ap (λ k. R k z) (exact x y e ∙ exact y z f) ∙ itself z in rw q (h i j)
  chain_case x y z Equal Greater e f g s t u h i j = cc
  chain_case x y z Greater b e f g s t u h i j = cc

  pub chain : (x y z : K) → (R x y ≡ Less → R y z ≡ Less → R x z ≡ Less) → (s t u : Ordering) → (s ≡ Less → t ≡ Less → u ≡ Less) → ordering_then (R x y) s ≡ Less → ordering_then (R y z) t ≡ Less → ordering_then (R x z) u ≡ Less
  chain x y z g = chain_case x y z (R x y) (R y z) refl refl g

-- an order from its reverse, its steps and its exactness
pub linear : {K : Type 0} (R : K → K → Ordering) → ((x y : K) → R x y ≡ ordering_reverse (R y x)) → ((x y z : K) → R x y ≡ Less → R y z ≡ Less → R x z ≡ Less) → Exact R → IsLinear R
linear R back steps exact =
    record {
      total = record { antisymm = back; trans = steps; congr = λ x y z e. ap (λ k. R k z) (exact x y e) };
      tells = λ x y. (exact x y, λ e. ap (R x) (sym e) ∙ own_reverse (R x x) (back x x));
    }

pub linear_of : {K : Type 0} (R : K → K → Ordering) → IsTotalOrder R → Exact R → IsLinear R
linear_of R o exact = record { total = o; tells = λ x y. (exact x y, λ e. ap (R x) (sym e) ∙ tied_itself o x) }

-- texts, names and uids
pub text_total : IsTotalOrder text_cmp
text_total = nat_list_cmp_total

pub text_exact : Exact text_cmp
text_exact = slice_cmp-IsAntisymmetric nat_cmp-IsAntisymmetric

pub bool_exact : Exact bool_cmp
bool_exact false false e = refl
bool_exact false true e = cc
bool_exact true false e = cc
bool_exact true true e = refl

pub name_total : IsTotalOrder name_order
name_total = then_total (on_total (λ (n : Name). name_text n) nat_list_cmp_total) (then_total (on_total (λ (n : Name). n.path) (lists_total nat_list_cmp_total)) (on_total (λ (n : Name). n.base) nat_list_cmp_total))

same_name : (m n : Name) → m.path ≡ n.path → m.base ≡ n.base → m ≡ n
same_name m n p q = λ i. record { path = p i; base = q i }

pub name_exact : Exact name_order
name_exact m n e =
    let p = both_equal (text_cmp (name_text m) (name_text n)) _ e in
    let q = both_equal (slice_cmp text_cmp m.path n.path) (text_cmp m.base n.base) p.1 in
    same_name m n (slice_cmp-IsAntisymmetric text_exact m.path n.path q.0) (text_exact m.base n.base q.1)

pub uid_total : IsTotalOrder uid_order
uid_total = then_total (on_total (λ (u : Uid). u.kind) name_total) (on_total (λ (u : Uid). u.id) nat_list_cmp_total)

same_uid : (u v : Uid) → u.kind ≡ v.kind → u.id ≡ v.id → u ≡ v
same_uid u v p q = λ i. record { kind = p i; id = q i }

pub uid_exact : Exact uid_order
uid_exact u v e =
    let p = both_equal (name_order u.kind v.kind) (text_cmp u.id v.id) e in
    same_uid u v (name_exact u.kind v.kind p.0) (text_exact u.id v.id p.1)
