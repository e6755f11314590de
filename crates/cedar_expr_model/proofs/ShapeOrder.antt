-- The order of expressions tells them apart, and goes on.
use Rattle.std.proofs.Common.{◌≡◌, ◌<◌, ◌≤◌, arith, Decides, refl, sym, ap}
use Rattle.std.specs.Ordering.{ordering_then, ordering_reverse}
use Rattle.std.specs.Cmp.{nat_cmp_is, Equal-is}
use Rattle.std.proofs.lemmas.Cmp.{tied_itself}
use Rattle.std.specs.declared.cmp.Ordering.TheVariants.{Less, Equal}
use Rattle.cedar_expr_model.specs.Order.{text_cmp, name_order}
use Rattle.cedar_expr_model.specs.Tree.{Tree, lit, var, slot, unknown, choice, both, either, unary, binary, call, get_attr, has_attr, has_path, like, is_type, set_literal, record_literal, Trees, no_trees, tree, TreeFields, no_tree_fields, tree_field}
use Rattle.cedar_expr_model.specs.Shape.{tree_rank, tree_cmp, trees_cmp, tree_fields_cmp, tree_eq}
use Rattle.cedar_expr_model.specs.Laws.{IsLinear}
use Rattle.cedar_expr_model.proofs.Linear.{own_reverse, both_equal, then_reverse, chain, linear, text_total, text_exact, name_total, name_exact}
use Rattle.cedar_expr_model.proofs.ValueOrder.{literal_linear, literal_exact}
use Rattle.cedar_expr_model.proofs.ShapeParts.{unary_cmp, binary_cmp, annotation_cmp, pattern_cmp, path_cmp, nat_less_up, var_total, var_exact, slot_total, slot_exact, unary_total, unary_exact, binary_total, binary_exact, annotation_total, annotation_exact, pattern_total, pattern_exact, path_total, path_exact}

mutual
  tree_back : (t u : Tree) → tree_cmp t u ≡ ordering_reverse (tree_cmp u t)
  tree_back (lit p) (lit p') = literal_linear.total.antisymm p p'
  tree_back (var x) (var x') = var_total.antisymm x x'
  tree_back (slot s) (slot s') = slot_total.antisymm s s'
  tree_back (unknown n a) (unknown n' a') = then_reverse (text_cmp n n') (annotation_cmp a a') (text_cmp n' n) (annotation_cmp a' a) (text_total.antisymm n n') (annotation_total.antisymm a a')
  tree_back (choice t a b) (choice t' a' b') = then_reverse (tree_cmp t t') (ordering_then (tree_cmp a a') (tree_cmp b b')) (tree_cmp t' t) (ordering_then (tree_cmp a' a) (tree_cmp b' b)) (tree_back t t') (then_reverse (tree_cmp a a') (tree_cmp b b') (tree_cmp a' a) (tree_cmp b' b) (tree_back a a') (tree_back b b'))
  tree_back (both a b) (both a' b') = then_reverse (tree_cmp a a') (tree_cmp b b') (tree_cmp a' a) (tree_cmp b' b) (tree_back a a') (tree_back b b')
  tree_back (either a b) (either a' b') = then_reverse (tree_cmp a a') (tree_cmp b b') (tree_cmp a' a) (tree_cmp b' b) (tree_back a a') (tree_back b b')
  tree_back (unary o a) (unary o' a') = then_reverse (unary_cmp o o') (tree_cmp a a') (unary_cmp o' o) (tree_cmp a' a) (unary_total.antisymm o o') (tree_back a a')
  tree_back (binary o a b) (binary o' a' b') = then_reverse (binary_cmp o o') (ordering_then (tree_cmp a a') (tree_cmp b b')) (binary_cmp o' o) (ordering_then (tree_cmp a' a) (tree_cmp b' b)) (binary_total.antisymm o o') (then_reverse (tree_cmp a a') (tree_cmp b b') (tree_cmp a' a) (tree_cmp b' b) (tree_back a a') (tree_back b b'))
  tree_back (call f ts) (call f' ts') = then_reverse (name_order f f') (trees_cmp ts ts') (name_order f' f) (trees_cmp ts' ts) (name_total.antisymm f f') (trees_back ts ts')
  tree_back (get_attr t a) (get_attr t' a') = then_reverse (tree_cmp t t') (text_cmp a a') (tree_cmp t' t) (text_cmp a' a) (tree_back t t') (text_total.antisymm a a')
  tree_back (has_attr t a) (has_attr t' a') = then_reverse (tree_cmp t t') (text_cmp a a') (tree_cmp t' t) (text_cmp a' a) (tree_back t t') (text_total.antisymm a a')
  tree_back (has_path t a as_) (has_path t' a' as_') = then_reverse (tree_cmp t t') (ordering_then (text_cmp a a') (path_cmp as_ as_')) (tree_cmp t' t) (ordering_then (text_cmp a' a) (path_cmp as_' as_)) (tree_back t t') (then_reverse (text_cmp a a') (path_cmp as_ as_') (text_cmp a' a) (path_cmp as_' as_) (text_total.antisymm a a') (path_total.antisymm as_ as_'))
  tree_back (like t p) (like t' p') = then_reverse (tree_cmp t t') (pattern_cmp p p') (tree_cmp t' t) (pattern_cmp p' p) (tree_back t t') (pattern_total.antisymm p p')
  tree_back (is_type t n) (is_type t' n') = then_reverse (tree_cmp t t') (name_order n n') (tree_cmp t' t) (name_order n' n) (tree_back t t') (name_total.antisymm n n')
  tree_back (set_literal ts) (set_literal ts') = trees_back ts ts'
  tree_back (record_literal fs) (record_literal fs') = tree_fields_back fs fs'
  tree_back t u = refl

  trees_back : (ts us : Trees) → trees_cmp ts us ≡ ordering_reverse (trees_cmp us ts)
  trees_back no_trees no_trees = refl
  trees_back no_trees (tree u us) = refl
  trees_back (tree t ts) no_trees = refl
  trees_back (tree t ts) (tree u us) = then_reverse (tree_cmp t u) (trees_cmp ts us) (tree_cmp u t) (trees_cmp us ts) (tree_back t u) (trees_back ts us)

  tree_fields_back : (fs gs : TreeFields) → tree_fields_cmp fs gs ≡ ordering_reverse (tree_fields_cmp gs fs)
  tree_fields_back no_tree_fields no_tree_fields = refl
  tree_fields_back no_tree_fields (tree_field b u gs) = refl
  tree_fields_back (tree_field a t fs) no_tree_fields = refl
  tree_fields_back (tree_field a t fs) (tree_field b u gs) =
      then_reverse (text_cmp a b) (ordering_then (tree_cmp t u) (tree_fields_cmp fs gs)) (text_cmp b a) (ordering_then (tree_cmp u t) (tree_fields_cmp gs fs)) (text_total.antisymm a b)
      (then_reverse (tree_cmp t u) (tree_fields_cmp fs gs) (tree_cmp u t) (tree_fields_cmp gs fs) (tree_back t u) (tree_fields_back fs gs))

mutual
  tree_exact : (t u : Tree) → tree_cmp t u ≡ Equal → t ≡ u
  tree_exact (lit p) (lit p') e = ap lit (literal_exact p p' e)
  tree_exact (var x) (var x') e = ap var (var_exact x x' e)
  tree_exact (slot s) (slot s') e = ap slot (slot_exact s s' e)
  tree_exact (unknown n a) (unknown n' a') e = let p0 = both_equal (text_cmp n n') (annotation_cmp a a') e in let h0 = text_exact n n' p0.0 in let h1 = annotation_exact a a' p0.1 in λ i. unknown (h0 i) (h1 i)
  tree_exact (choice t a b) (choice t' a' b') e = let p0 = both_equal (tree_cmp t t') (ordering_then (tree_cmp a a') (tree_cmp b b')) e in let q0 = both_equal (tree_cmp a a') (tree_cmp b b') p0.1 in let h0 = tree_exact t t' p0.0 in let h1 = tree_exact a a' q0.0 in let h2 = tree_exact b b' q0.1 in λ i. choice (h0 i) (h1 i) (h2 i)
  tree_exact (both a b) (both a' b') e = let p0 = both_equal (tree_cmp a a') (tree_cmp b b') e in let h0 = tree_exact a a' p0.0 in let h1 = tree_exact b b' p0.1 in λ i. both (h0 i) (h1 i)
  tree_exact (either a b) (either a' b') e = let p0 = both_equal (tree_cmp a a') (tree_cmp b b') e in let h0 = tree_exact a a' p0.0 in let h1 = tree_exact b b' p0.1 in λ i. either (h0 i) (h1 i)
  tree_exact (unary o a) (unary o' a') e = let p0 = both_equal (unary_cmp o o') (tree_cmp a a') e in let h0 = unary_exact o o' p0.0 in let h1 = tree_exact a a' p0.1 in λ i. unary (h0 i) (h1 i)
  tree_exact (binary o a b) (binary o' a' b') e = let p0 = both_equal (binary_cmp o o') (ordering_then (tree_cmp a a') (tree_cmp b b')) e in let q0 = both_equal (tree_cmp a a') (tree_cmp b b') p0.1 in let h0 = binary_exact o o' p0.0 in let h1 = tree_exact a a' q0.0 in let h2 = tree_exact b b' q0.1 in λ i. binary (h0 i) (h1 i) (h2 i)
  tree_exact (call f ts) (call f' ts') e = let p0 = both_equal (name_order f f') (trees_cmp ts ts') e in let h0 = name_exact f f' p0.0 in let h1 = trees_exact ts ts' p0.1 in λ i. call (h0 i) (h1 i)
  tree_exact (get_attr t a) (get_attr t' a') e = let p0 = both_equal (tree_cmp t t') (text_cmp a a') e in let h0 = tree_exact t t' p0.0 in let h1 = text_exact a a' p0.1 in λ i. get_attr (h0 i) (h1 i)
  tree_exact (has_attr t a) (has_attr t' a') e = let p0 = both_equal (tree_cmp t t') (text_cmp a a') e in let h0 = tree_exact t t' p0.0 in let h1 = text_exact a a' p0.1 in λ i. has_attr (h0 i) (h1 i)
  tree_exact (has_path t a as_) (has_path t' a' as_') e = let p0 = both_equal (tree_cmp t t') (ordering_then (text_cmp a a') (path_cmp as_ as_')) e in let q0 = both_equal (text_cmp a a') (path_cmp as_ as_') p0.1 in let h0 = tree_exact t t' p0.0 in let h1 = text_exact a a' q0.0 in let h2 = path_exact as_ as_' q0.1 in λ i. has_path (h0 i) (h1 i) (h2 i)
  tree_exact (like t p) (like t' p') e = let p0 = both_equal (tree_cmp t t') (pattern_cmp p p') e in let h0 = tree_exact t t' p0.0 in let h1 = pattern_exact p p' p0.1 in λ i. like (h0 i) (h1 i)
  tree_exact (is_type t n) (is_type t' n') e = let p0 = both_equal (tree_cmp t t') (name_order n n') e in let h0 = tree_exact t t' p0.0 in let h1 = name_exact n n' p0.1 in λ i. is_type (h0 i) (h1 i)
  tree_exact (set_literal ts) (set_literal ts') e = ap set_literal (trees_exact ts ts' e)
  tree_exact (record_literal fs) (record_literal fs') e = ap record_literal (tree_fields_exact fs fs' e)
  tree_exact t u e = cc

  trees_exact : (ts us : Trees) → trees_cmp ts us ≡ Equal → ts ≡ us
  trees_exact no_trees no_trees e = refl
  trees_exact no_trees (tree u us) e = cc
  trees_exact (tree t ts) no_trees e = cc
  trees_exact (tree t ts) (tree u us) e =
      let p = both_equal (tree_cmp t u) (trees_cmp ts us) e in
      let h = tree_exact t u p.0 in
      let k = trees_exact ts us p.1 in
      λ i. tree (h i) (k i)

  tree_fields_exact : (fs gs : TreeFields) → tree_fields_cmp fs gs ≡ Equal → fs ≡ gs
  tree_fields_exact no_tree_fields no_tree_fields e = refl
  tree_fields_exact no_tree_fields (tree_field b u gs) e = cc
  tree_fields_exact (tree_field a t fs) no_tree_fields e = cc
  tree_fields_exact (tree_field a t fs) (tree_field b u gs) e =
      let p = both_equal (text_cmp a b) (ordering_then (tree_cmp t u) (tree_fields_cmp fs gs)) e in
      let q = both_equal (tree_cmp t u) (tree_fields_cmp fs gs) p.1 in
      let h = text_exact a b p.0 in
      let k = tree_exact t u q.0 in
      let l = tree_fields_exact fs gs q.1 in
      λ i. tree_field (h i) (k i) (l i)

tree_itself : (t : Tree) → tree_cmp t t ≡ Equal
tree_itself t = own_reverse (tree_cmp t t) (tree_back t t)

trees_itself : (ts : Trees) → trees_cmp ts ts ≡ Equal
trees_itself ts = own_reverse (trees_cmp ts ts) (trees_back ts ts)

fields_itself : (fs : TreeFields) → tree_fields_cmp fs fs ≡ Equal
fields_itself fs = own_reverse (tree_fields_cmp fs fs) (tree_fields_back fs fs)

-- kinds rise along the order, and what is of a later kind is later
tree_up : (t u : Tree) → tree_cmp t u ≡ Less → tree_rank t ≤ tree_rank u
tree_up (lit p) (lit p') e = omega arith
tree_up (var x) (var x') e = omega arith
tree_up (slot s) (slot s') e = omega arith
tree_up (unknown n a) (unknown n' a') e = omega arith
tree_up (choice t a b) (choice t' a' b') e = omega arith
tree_up (both a b) (both a' b') e = omega arith
tree_up (either a b) (either a' b') e = omega arith
tree_up (unary o a) (unary o' a') e = omega arith
tree_up (binary o a b) (binary o' a' b') e = omega arith
tree_up (call f ts) (call f' ts') e = omega arith
tree_up (get_attr t a) (get_attr t' a') e = omega arith
tree_up (has_attr t a) (has_attr t' a') e = omega arith
tree_up (has_path t a as_) (has_path t' a' as_') e = omega arith
tree_up (like t p) (like t' p') e = omega arith
tree_up (is_type t n) (is_type t' n') e = omega arith
tree_up (set_literal ts) (set_literal ts') e = omega arith
tree_up (record_literal fs) (record_literal fs') e = omega arith
tree_up t u e = nat_less_up (tree_rank t) (tree_rank u) e

tree_below : (t u : Tree) → tree_rank t < tree_rank u → tree_cmp t u ≡ Less
tree_below (lit p) (lit p') e = absurd (omega arith)
tree_below (var x) (var x') e = absurd (omega arith)
tree_below (slot s) (slot s') e = absurd (omega arith)
tree_below (unknown n a) (unknown n' a') e = absurd (omega arith)
tree_below (choice t a b) (choice t' a' b') e = absurd (omega arith)
tree_below (both a b) (both a' b') e = absurd (omega arith)
tree_below (either a b) (either a' b') e = absurd (omega arith)
tree_below (unary o a) (unary o' a') e = absurd (omega arith)
tree_below (binary o a b) (binary o' a' b') e = absurd (omega arith)
tree_below (call f ts) (call f' ts') e = absurd (omega arith)
tree_below (get_attr t a) (get_attr t' a') e = absurd (omega arith)
tree_below (has_attr t a) (has_attr t' a') e = absurd (omega arith)
tree_below (has_path t a as_) (has_path t' a' as_') e = absurd (omega arith)
tree_below (like t p) (like t' p') e = absurd (omega arith)
tree_below (is_type t n) (is_type t' n') e = absurd (omega arith)
tree_below (set_literal ts) (set_literal ts') e = absurd (omega arith)
tree_below (record_literal fs) (record_literal fs') e = absurd (omega arith)
tree_below t u e = sym (nat_cmp_is (tree_rank t) (tree_rank u) Less e)

mutual
  tree_steps : (t u v : Tree) → tree_cmp t u ≡ Less → tree_cmp u v ≡ Less → tree_cmp t v ≡ Less
  tree_steps (lit p) (lit p') (lit p'') e f = literal_linear.total.trans p p' p'' e f
  tree_steps (var x) (var x') (var x'') e f = var_total.trans x x' x'' e f
  tree_steps (slot s) (slot s') (slot s'') e f = slot_total.trans s s' s'' e f
  tree_steps (unknown n a) (unknown n' a') (unknown n'' a'') e f = chain text_cmp text_exact (tied_itself text_total) n n' n'' (text_total.trans n n' n'') (annotation_cmp a a') (annotation_cmp a' a'') (annotation_cmp a a'') (annotation_total.trans a a' a'') e f
  tree_steps (choice t a b) (choice t' a' b') (choice t'' a'' b'') e f = chain tree_cmp tree_exact tree_itself t t' t'' (tree_steps t t' t'') (ordering_then (tree_cmp a a') (tree_cmp b b')) (ordering_then (tree_cmp a' a'') (tree_cmp b' b'')) (ordering_then (tree_cmp a a'') (tree_cmp b b'')) (chain tree_cmp tree_exact tree_itself a a' a'' (tree_steps a a' a'') (tree_cmp b b') (tree_cmp b' b'') (tree_cmp b b'') (tree_steps b b' b'')) e f
  tree_steps (both a b) (both a' b') (both a'' b'') e f = chain tree_cmp tree_exact tree_itself a a' a'' (tree_steps a a' a'') (tree_cmp b b') (tree_cmp b' b'') (tree_cmp b b'') (tree_steps b b' b'') e f
  tree_steps (either a b) (either a' b') (either a'' b'') e f = chain tree_cmp tree_exact tree_itself a a' a'' (tree_steps a a' a'') (tree_cmp b b') (tree_cmp b' b'') (tree_cmp b b'') (tree_steps b b' b'') e f
  tree_steps (unary o a) (unary o' a') (unary o'' a'') e f = chain unary_cmp unary_exact (tied_itself unary_total) o o' o'' (unary_total.trans o o' o'') (tree_cmp a a') (tree_cmp a' a'') (tree_cmp a a'') (tree_steps a a' a'') e f
  tree_steps (binary o a b) (binary o' a' b') (binary o'' a'' b'') e f = chain binary_cmp binary_exact (tied_itself binary_total) o o' o'' (binary_total.trans o o' o'') (ordering_then (tree_cmp a a') (tree_cmp b b')) (ordering_then (tree_cmp a' a'') (tree_cmp b' b'')) (ordering_then (tree_cmp a a'') (tree_cmp b b'')) (chain tree_cmp tree_exact tree_itself a a' a'' (tree_steps a a' a'') (tree_cmp b b') (tree_cmp b' b'') (tree_cmp b b'') (tree_steps b b' b'')) e f
  tree_steps (call g ts) (call g' ts') (call g'' ts'') e f = chain name_order name_exact (tied_itself name_total) g g' g'' (name_total.trans g g' g'') (trees_cmp ts ts') (trees_cmp ts' ts'') (trees_cmp ts ts'') (trees_steps ts ts' ts'') e f
  tree_steps (get_attr t a) (get_attr t' a') (get_attr t'' a'') e f = chain tree_cmp tree_exact tree_itself t t' t'' (tree_steps t t' t'') (text_cmp a a') (text_cmp a' a'') (text_cmp a a'') (text_total.trans a a' a'') e f
  tree_steps (has_attr t a) (has_attr t' a') (has_attr t'' a'') e f = chain tree_cmp tree_exact tree_itself t t' t'' (tree_steps t t' t'') (text_cmp a a') (text_cmp a' a'') (text_cmp a a'') (text_total.trans a a' a'') e f
  tree_steps (has_path t a as_) (has_path t' a' as_') (has_path t'' a'' as_'') e f = chain tree_cmp tree_exact tree_itself t t' t'' (tree_steps t t' t'') (ordering_then (text_cmp a a') (path_cmp as_ as_')) (ordering_then (text_cmp a' a'') (path_cmp as_' as_'')) (ordering_then (text_cmp a a'') (path_cmp as_ as_'')) (chain text_cmp text_exact (tied_itself text_total) a a' a'' (text_total.trans a a' a'') (path_cmp as_ as_') (path_cmp as_' as_'') (path_cmp as_ as_'') (path_total.trans as_ as_' as_'')) e f
  tree_steps (like t p) (like t' p') (like t'' p'') e f = chain tree_cmp tree_exact tree_itself t t' t'' (tree_steps t t' t'') (pattern_cmp p p') (pattern_cmp p' p'') (pattern_cmp p p'') (pattern_total.trans p p' p'') e f
  tree_steps (is_type t n) (is_type t' n') (is_type t'' n'') e f = chain tree_cmp tree_exact tree_itself t t' t'' (tree_steps t t' t'') (name_order n n') (name_order n' n'') (name_order n n'') (name_total.trans n n' n'') e f
  tree_steps (set_literal ts) (set_literal ts') (set_literal ts'') e f = trees_steps ts ts' ts'' e f
  tree_steps (record_literal fs) (record_literal fs') (record_literal fs'') e f = tree_fields_steps fs fs' fs'' e f
  tree_steps t u v e f = tree_below t v (omega (arith, tree_up t u e, tree_up u v f))

  trees_steps : (ts us vs : Trees) → trees_cmp ts us ≡ Less → trees_cmp us vs ≡ Less → trees_cmp ts vs ≡ Less
  trees_steps no_trees no_trees no_trees e f = e
  trees_steps no_trees (tree u us) no_trees e f = cc
  trees_steps no_trees us (tree v vs) e f = refl
  trees_steps (tree t ts) no_trees vs e f = cc
  trees_steps (tree t ts) (tree u us) no_trees e f = cc
  trees_steps (tree t ts) (tree u us) (tree v vs) e f = chain tree_cmp tree_exact tree_itself t u v (tree_steps t u v) (trees_cmp ts us) (trees_cmp us vs) (trees_cmp ts vs) (trees_steps ts us vs) e f

  tree_fields_steps : (fs gs hs : TreeFields) → tree_fields_cmp fs gs ≡ Less → tree_fields_cmp gs hs ≡ Less → tree_fields_cmp fs hs ≡ Less
  tree_fields_steps no_tree_fields no_tree_fields no_tree_fields e f = e
  tree_fields_steps no_tree_fields (tree_field b u gs) no_tree_fields e f = cc
  tree_fields_steps no_tree_fields gs (tree_field c v hs) e f = refl
  tree_fields_steps (tree_field a t fs) no_tree_fields hs e f = cc
  tree_fields_steps (tree_field a t fs) (tree_field b u gs) no_tree_fields e f = cc
  tree_fields_steps (tree_field a t fs) (tree_field b u gs) (tree_field c v hs) e f =
      chain text_cmp text_exact (tied_itself text_total) a b c (text_total.trans a b c) _ _ _
      (chain tree_cmp tree_exact tree_itself t u v (tree_steps t u v) (tree_fields_cmp fs gs) (tree_fields_cmp gs hs) (tree_fields_cmp fs hs) (tree_fields_steps fs gs hs)) e f

pub tree_linear : IsLinear tree_cmp
tree_linear = linear tree_cmp tree_back tree_steps tree_exact

pub trees_decide : (t u : Tree) → Decides (tree_eq t u) (t ≡ u)
trees_decide t u =
    let h = tree_linear.tells t u in
    let k = Equal-is (tree_cmp t u) in
    (λ e. h.0 (k.0 e), λ e. k.1 (h.1 e))
