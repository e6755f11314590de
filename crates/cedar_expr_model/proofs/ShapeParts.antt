-- The orders of the parts of expressions tell them apart.
use Rattle.std.proofs.Common.{◌≡◌, ◌<◌, ◌≤◌, arith, ℕ, zero, suc, List, Option, Some, None, refl, sym, ap, ◌∙◌}
use Rattle.std.specs.Ordering.{nat_cmp, ordering_reverse}
use Rattle.std.specs.Cmp.{IsTotalOrder, nat_cmp_is}
use Rattle.std.specs.Option.{option_cmp}
use Rattle.std.specs.Cmp.Lexicographic.{options_total, slice_cmp}
use Rattle.std.specs.FinMap.{nat_cmp-IsAntisymmetric, slice_cmp-IsAntisymmetric}
use Rattle.std.proofs.lemmas.Cmp.{nat_cmp_total, lists_total, on_total, ranked}
use Rattle.std.specs.declared.cmp.Ordering.{Ordering}
use Rattle.std.specs.declared.cmp.Ordering.TheVariants.{Less}
use Rattle.cedar_expr_model.specs.Name.{Text}
use Rattle.cedar_expr_model.specs.Pattern.{Pattern, Element, character, wildcard}
use Rattle.cedar_expr_model.specs.Tree.{Var, principal, action, resource, context, SlotId, principal_slot, resource_slot, CoreType, bool_core, long_core, string_core, set_core, record_core, entity_core, extension_core, UnaryOp, negation, minus, is_empty, BinaryOp, equal, less, less_or_equal, plus, difference, times, remainder, is_in, contains, contains_all, contains_any, get_tag, has_tag}
use Rattle.cedar_expr_model.specs.Order.{text_cmp, core_rank, core_cmp}
use Rattle.cedar_expr_model.specs.Shape.{var_rank, slot_rank, unary_rank, binary_rank, element_cmp}
use Rattle.cedar_expr_model.specs.Laws.{IsLinear}
use Rattle.cedar_expr_model.proofs.Linear.{Exact, linear, text_total, text_exact, name_total, name_exact}

-- what is numbered, and comes back from its number, is told apart by the number
numbered : {K : Type 0} (rank : K → ℕ) (back : ℕ → K) → ((x : K) → back (rank x) ≡ x) → Exact (λ x y. nat_cmp (rank x) (rank y))
numbered rank back again x y e = sym (again x) ∙ (ap back (nat_cmp-IsAntisymmetric (rank x) (rank y) e) ∙ again y)

pub nat_less_up : (m n : ℕ) → nat_cmp m n ≡ Less → m ≤ n
nat_less_up m n e = let h = ranked m n Less (sym e) in omega (arith, h)

-- variables, slots and operators by their places
abbrev pub var_cmp : Var → Var → Ordering
var_cmp x y = nat_cmp (var_rank x) (var_rank y)

abbrev pub slot_cmp : SlotId → SlotId → Ordering
slot_cmp x y = nat_cmp (slot_rank x) (slot_rank y)

abbrev pub unary_cmp : UnaryOp → UnaryOp → Ordering
unary_cmp x y = nat_cmp (unary_rank x) (unary_rank y)

abbrev pub binary_cmp : BinaryOp → BinaryOp → Ordering
binary_cmp x y = nat_cmp (binary_rank x) (binary_rank y)

abbrev var_at : ℕ → Var
var_at zero = principal
var_at (suc zero) = action
var_at (suc (suc zero)) = resource
var_at n = context

var_again : (x : Var) → var_at (var_rank x) ≡ x
var_again principal = refl
var_again action = refl
var_again resource = refl
var_again context = refl

pub var_total : IsTotalOrder var_cmp
var_total = on_total var_rank nat_cmp_total

pub var_exact : Exact var_cmp
var_exact = numbered var_rank var_at var_again

abbrev slot_at : ℕ → SlotId
slot_at zero = principal_slot
slot_at n = resource_slot

slot_again : (x : SlotId) → slot_at (slot_rank x) ≡ x
slot_again principal_slot = refl
slot_again resource_slot = refl

pub slot_total : IsTotalOrder slot_cmp
slot_total = on_total slot_rank nat_cmp_total

pub slot_exact : Exact slot_cmp
slot_exact = numbered slot_rank slot_at slot_again

abbrev unary_at : ℕ → UnaryOp
unary_at zero = negation
unary_at (suc zero) = minus
unary_at n = is_empty

unary_again : (x : UnaryOp) → unary_at (unary_rank x) ≡ x
unary_again negation = refl
unary_again minus = refl
unary_again is_empty = refl

pub unary_total : IsTotalOrder unary_cmp
unary_total = on_total unary_rank nat_cmp_total

pub unary_exact : Exact unary_cmp
unary_exact = numbered unary_rank unary_at unary_again

abbrev binary_at : ℕ → BinaryOp
binary_at zero = equal
binary_at (suc zero) = less
binary_at (suc (suc zero)) = less_or_equal
binary_at (suc (suc (suc zero))) = plus
binary_at (suc (suc (suc (suc zero)))) = difference
binary_at (suc (suc (suc (suc (suc zero))))) = times
binary_at (suc (suc (suc (suc (suc (suc zero)))))) = remainder
binary_at (suc (suc (suc (suc (suc (suc (suc zero))))))) = is_in
binary_at (suc (suc (suc (suc (suc (suc (suc (suc zero)))))))) = contains
binary_at (suc (suc (suc (suc (suc (suc (suc (suc (suc zero))))))))) = contains_all
binary_at (suc (suc (suc (suc (suc (suc (suc (suc (suc (suc zero)))))))))) = contains_any
binary_at (suc (suc (suc (suc (suc (suc (suc (suc (suc (suc (suc zero))))))))))) = get_tag
binary_at n = has_tag

binary_again : (x : BinaryOp) → binary_at (binary_rank x) ≡ x
binary_again equal = refl
binary_again less = refl
binary_again less_or_equal = refl
binary_again plus = refl
binary_again difference = refl
binary_again times = refl
binary_again remainder = refl
binary_again is_in = refl
binary_again contains = refl
binary_again contains_all = refl
binary_again contains_any = refl
binary_again get_tag = refl
binary_again has_tag = refl

pub binary_total : IsTotalOrder binary_cmp
binary_total = on_total binary_rank nat_cmp_total

pub binary_exact : Exact binary_cmp
binary_exact = numbered binary_rank binary_at binary_again

core_back : (a b : CoreType) → core_cmp a b ≡ ordering_reverse (core_cmp b a)
core_back (entity_core m) (entity_core n) = name_total.antisymm m n
core_back (extension_core m) (extension_core n) = name_total.antisymm m n
core_back bool_core bool_core = refl
core_back long_core long_core = refl
core_back string_core string_core = refl
core_back set_core set_core = refl
core_back record_core record_core = refl
core_back a b = refl

core_exact : Exact core_cmp
core_exact bool_core bool_core e = refl
core_exact long_core long_core e = refl
core_exact string_core string_core e = refl
core_exact set_core set_core e = refl
core_exact record_core record_core e = refl
core_exact (entity_core m) (entity_core n) e = ap entity_core (name_exact m n e)
core_exact (extension_core m) (extension_core n) e = ap extension_core (name_exact m n e)
core_exact a b e = cc

core_up : (a b : CoreType) → core_cmp a b ≡ Less → core_rank a ≤ core_rank b
core_up (entity_core m) (entity_core n) e = omega arith
core_up (extension_core m) (extension_core n) e = omega arith
core_up bool_core bool_core e = omega arith
core_up long_core long_core e = omega arith
core_up string_core string_core e = omega arith
core_up set_core set_core e = omega arith
core_up record_core record_core e = omega arith
core_up a b e = nat_less_up (core_rank a) (core_rank b) e

core_below : (a b : CoreType) → core_rank a < core_rank b → core_cmp a b ≡ Less
core_below (entity_core m) (entity_core n) e = absurd (omega arith)
core_below (extension_core m) (extension_core n) e = absurd (omega arith)
core_below bool_core bool_core e = absurd (omega arith)
core_below long_core long_core e = absurd (omega arith)
core_below string_core string_core e = absurd (omega arith)
core_below set_core set_core e = absurd (omega arith)
core_below record_core record_core e = absurd (omega arith)
core_below a b e = sym (nat_cmp_is (core_rank a) (core_rank b) Less e)

core_steps : (a b c : CoreType) → core_cmp a b ≡ Less → core_cmp b c ≡ Less → core_cmp a c ≡ Less
core_steps bool_core bool_core c e f = cc
core_steps long_core long_core c e f = cc
core_steps string_core string_core c e f = cc
core_steps set_core set_core c e f = cc
core_steps record_core record_core c e f = cc
core_steps (entity_core m) (entity_core n) (entity_core o) e f = name_total.trans m n o e f
core_steps (extension_core m) (extension_core n) (extension_core o) e f = name_total.trans m n o e f
core_steps a b c e f = core_below a c (omega (arith, core_up a b e, core_up b c f))

pub core_linear : IsLinear core_cmp
core_linear = linear core_cmp core_back core_steps core_exact

abbrev pub annotation_cmp : Option CoreType → Option CoreType → Ordering
annotation_cmp a b = option_cmp core_cmp a b

pub annotation_total : IsTotalOrder annotation_cmp
annotation_total = options_total core_linear.total

pub annotation_exact : Exact annotation_cmp
annotation_exact None None e = refl
annotation_exact None (Some b) e = cc
annotation_exact (Some a) None e = cc
annotation_exact (Some a) (Some b) e = ap Some ((core_linear.tells a b).0 e)

element_back : (x y : Element) → element_cmp x y ≡ ordering_reverse (element_cmp y x)
element_back (character c) (character d) = nat_cmp_total.antisymm c d
element_back (character c) wildcard = refl
element_back wildcard (character d) = refl
element_back wildcard wildcard = refl

element_exact : Exact element_cmp
element_exact (character c) (character d) e = ap character (nat_cmp-IsAntisymmetric c d e)
element_exact (character c) wildcard e = cc
element_exact wildcard (character d) e = cc
element_exact wildcard wildcard e = refl

element_steps : (x y z : Element) → element_cmp x y ≡ Less → element_cmp y z ≡ Less → element_cmp x z ≡ Less
element_steps (character b) (character c) (character d) e f = nat_cmp_total.trans b c d e f
element_steps (character b) (character c) wildcard e f = refl
element_steps (character b) wildcard z e f = elim_last z f
  where
    elim_last : (u : Element) → element_cmp wildcard u ≡ Less → element_cmp (character b) u ≡ Less
    elim_last (character d) f = cc
    elim_last wildcard f = refl
element_steps wildcard (character c) z e f = cc
element_steps wildcard wildcard z e f = cc

element_linear : IsLinear element_cmp
element_linear = linear element_cmp element_back element_steps element_exact

-- patterns and paths
abbrev pub pattern_cmp : Pattern → Pattern → Ordering
pattern_cmp p q = slice_cmp element_cmp p q

abbrev pub path_cmp : List Text → List Text → Ordering
path_cmp a b = slice_cmp text_cmp a b

pub pattern_total : IsTotalOrder pattern_cmp
pattern_total = lists_total element_linear.total

pub pattern_exact : Exact pattern_cmp
pattern_exact = slice_cmp-IsAntisymmetric element_exact

pub path_total : IsTotalOrder path_cmp
path_total = lists_total text_total

pub path_exact : Exact path_cmp
path_exact = slice_cmp-IsAntisymmetric text_exact
