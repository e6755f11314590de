-- The order of literals and values tells them apart, and goes on.
use Rattle.std.proofs.Common.{◌≡◌, ◌<◌, ◌≤◌, arith, refl, sym, ap, Decides}
use Rattle.std.specs.Ordering.{ordering_reverse}
use Rattle.std.specs.Cmp.{bool_cmp_total, nat_cmp_is, Equal-is}
use Rattle.std.specs.FinMap.{int_cmp-IsAntisymmetric}
use Rattle.std.proofs.lemmas.Cmp.{int_cmp_total, tied_itself}
use Rattle.std.specs.declared.cmp.Ordering.TheVariants.{Less, Equal}
use Rattle.cedar_expr_model.specs.Name.{Text, Name}
use Rattle.cedar_expr_model.specs.Value.{Literal, truth, long, text, entity, V, prim, set_of, record_of, extension, Vs, no_values, value, Fields, no_fields, field}
use Rattle.cedar_expr_model.specs.Order.{text_cmp, name_order, literal_rank, literal_cmp, rank, value_cmp, values_cmp, fields_cmp, value_eq}
use Rattle.cedar_expr_model.specs.Laws.{IsLinear}
use Rattle.cedar_expr_model.proofs.Linear.{Exact, own_reverse, both_equal, then_reverse, chain, linear, text_total, text_exact, bool_exact, name_total, name_exact, uid_total, uid_exact}

literal_back : (p q : Literal) → literal_cmp p q ≡ ordering_reverse (literal_cmp q p)
literal_back (truth a) (truth b) = bool_cmp_total.antisymm a b
literal_back (long a) (long b) = int_cmp_total.antisymm a b
literal_back (text a) (text b) = text_total.antisymm a b
literal_back (entity a) (entity b) = uid_total.antisymm a b
literal_back p q = refl

pub literal_exact : Exact literal_cmp
literal_exact (truth a) (truth b) e = ap truth (bool_exact a b e)
literal_exact (long a) (long b) e = ap long (int_cmp-IsAntisymmetric a b e)
literal_exact (text a) (text b) e = ap text (text_exact a b e)
literal_exact (entity a) (entity b) e = ap entity (uid_exact a b e)
literal_exact p q e = cc

-- kinds rise along the order, and what is of a later kind is later
literal_rank_up : (p q : Literal) → literal_cmp p q ≡ Less → literal_rank p ≤ literal_rank q
literal_rank_up (truth a) (truth b) e = omega arith
literal_rank_up (long a) (long b) e = omega arith
literal_rank_up (text a) (text b) e = omega arith
literal_rank_up (entity a) (entity b) e = omega arith
literal_rank_up p q e = first_of (omega arith, cc)

literal_below : (p q : Literal) → literal_rank p < literal_rank q → literal_cmp p q ≡ Less
literal_below (truth a) (truth b) e = absurd (omega arith)
literal_below (long a) (long b) e = absurd (omega arith)
literal_below (text a) (text b) e = absurd (omega arith)
literal_below (entity a) (entity b) e = absurd (omega arith)
literal_below p q e = sym (nat_cmp_is (literal_rank p) (literal_rank q) Less e)

literal_chain : (p q r : Literal) → literal_cmp p q ≡ Less → literal_cmp q r ≡ Less → literal_cmp p r ≡ Less
literal_chain (truth a) (truth b) (truth c) e f = bool_cmp_total.trans a b c e f
literal_chain (long a) (long b) (long c) e f = int_cmp_total.trans a b c e f
literal_chain (text a) (text b) (text c) e f = text_total.trans a b c e f
literal_chain (entity a) (entity b) (entity c) e f = uid_total.trans a b c e f
literal_chain p q r e f = literal_below p r (omega (arith, literal_rank_up p q e, literal_rank_up q r f))

pub literal_linear : IsLinear literal_cmp
literal_linear = linear literal_cmp literal_back literal_chain literal_exact

mutual
  value_back : (v w : V) → value_cmp v w ≡ ordering_reverse (value_cmp w v)
  value_back (prim p) (prim q) = literal_back p q
  value_back (set_of vs) (set_of ws) = values_back vs ws
  value_back (record_of fs) (record_of gs) = fields_back fs gs
  value_back (extension m j) (extension n k) = then_reverse (name_order m n) (text_cmp j k) (name_order n m) (text_cmp k j) (name_total.antisymm m n) (text_total.antisymm j k)
  value_back v w = refl

  values_back : (vs ws : Vs) → values_cmp vs ws ≡ ordering_reverse (values_cmp ws vs)
  values_back no_values no_values = refl
  values_back no_values (value w ws) = refl
  values_back (value v vs) no_values = refl
  values_back (value v vs) (value w ws) = then_reverse (value_cmp v w) (values_cmp vs ws) (value_cmp w v) (values_cmp ws vs) (value_back v w) (values_back vs ws)

  fields_back : (fs gs : Fields) → fields_cmp fs gs ≡ ordering_reverse (fields_cmp gs fs)
  fields_back no_fields no_fields = refl
  fields_back no_fields (field b w gs) = refl
  fields_back (field a v fs) no_fields = refl
  fields_back (field a v fs) (field b w gs) =
      then_reverse (text_cmp a b) _ (text_cmp b a) _ (text_total.antisymm a b)
      (then_reverse (value_cmp v w) (fields_cmp fs gs) (value_cmp w v) (fields_cmp gs fs) (value_back v w) (fields_back fs gs))

same_extension : (m n : Name) (j k : Text) → m ≡ n → j ≡ k → extension m j ≡ extension n k
same_extension m n j k p q = λ i. extension (p i) (q i)

same_value : (v w : V) (vs ws : Vs) → v ≡ w → vs ≡ ws → value v vs ≡ value w ws
same_value v w vs ws p q = λ i. value (p i) (q i)

same_field : (a b : Text) (v w : V) (fs gs : Fields) → a ≡ b → v ≡ w → fs ≡ gs → field a v fs ≡ field b w gs
same_field a b v w fs gs p q r = λ i. field (p i) (q i) (r i)

mutual
  pub value_exact : (v w : V) → value_cmp v w ≡ Equal → v ≡ w
  value_exact (prim p) (prim q) e = ap prim (literal_exact p q e)
  value_exact (set_of vs) (set_of ws) e = ap set_of (values_exact vs ws e)
  value_exact (record_of fs) (record_of gs) e = ap record_of (fields_exact fs gs e)
  value_exact (extension m j) (extension n k) e = let p = both_equal (name_order m n) (text_cmp j k) e in same_extension m n j k (name_exact m n p.0) (text_exact j k p.1)
  value_exact v w e = cc

  values_exact : (vs ws : Vs) → values_cmp vs ws ≡ Equal → vs ≡ ws
  values_exact no_values no_values e = refl
  values_exact no_values (value w ws) e = cc
  values_exact (value v vs) no_values e = cc
  values_exact (value v vs) (value w ws) e = let p = both_equal (value_cmp v w) (values_cmp vs ws) e in same_value v w vs ws (value_exact v w p.0) (values_exact vs ws p.1)

  fields_exact : (fs gs : Fields) → fields_cmp fs gs ≡ Equal → fs ≡ gs
  fields_exact no_fields no_fields e = refl
  fields_exact no_fields (field b w gs) e = cc
  fields_exact (field a v fs) no_fields e = cc
  fields_exact (field a v fs) (field b w gs) e =
      let p = both_equal (text_cmp a b) _ e in
      let q = both_equal (value_cmp v w) (fields_cmp fs gs) p.1 in
      same_field a b v w fs gs (text_exact a b p.0) (value_exact v w q.0) (fields_exact fs gs q.1)

pub value_itself : (v : V) → value_cmp v v ≡ Equal
value_itself v = own_reverse (value_cmp v v) (value_back v v)

value_rank_up : (v w : V) → value_cmp v w ≡ Less → rank v ≤ rank w
value_rank_up (prim p) (prim q) e = omega arith
value_rank_up (set_of vs) (set_of ws) e = omega arith
value_rank_up (record_of fs) (record_of gs) e = omega arith
value_rank_up (extension m j) (extension n k) e = omega arith
value_rank_up v w e = first_of (omega arith, cc)

value_below : (v w : V) → rank v < rank w → value_cmp v w ≡ Less
value_below (prim p) (prim q) e = absurd (omega arith)
value_below (set_of vs) (set_of ws) e = absurd (omega arith)
value_below (record_of fs) (record_of gs) e = absurd (omega arith)
value_below (extension m j) (extension n k) e = absurd (omega arith)
value_below v w e = sym (nat_cmp_is (rank v) (rank w) Less e)

mutual
  value_chain : (v w u : V) → value_cmp v w ≡ Less → value_cmp w u ≡ Less → value_cmp v u ≡ Less
  value_chain (prim p) (prim q) (prim r) e f = literal_chain p q r e f
  value_chain (set_of vs) (set_of ws) (set_of us) e f = values_chain vs ws us e f
  value_chain (record_of fs) (record_of gs) (record_of hs) e f = fields_chain fs gs hs e f
  value_chain (extension m j) (extension n k) (extension o l) e f = chain name_order name_exact (tied_itself name_total) m n o (name_total.trans m n o) (text_cmp j k) (text_cmp k l) (text_cmp j l) (text_total.trans j k l) e f
  value_chain v w u e f = value_below v u (omega (arith, value_rank_up v w e, value_rank_up w u f))

  values_chain : (vs ws us : Vs) → values_cmp vs ws ≡ Less → values_cmp ws us ≡ Less → values_cmp vs us ≡ Less
  values_chain (value v vs) (value w ws) (value u us) e f = chain value_cmp value_exact value_itself v w u (value_chain v w u) (values_cmp vs ws) (values_cmp ws us) (values_cmp vs us) (values_chain vs ws us) e f
  values_chain no_values no_values no_values e f = e
  values_chain no_values (value w ws) no_values e f = cc
  values_chain no_values ws (value u us) e f = refl
  values_chain (value v vs) no_values us e f = cc
  values_chain (value v vs) (value w ws) no_values e f = cc

  fields_chain : (fs gs hs : Fields) → fields_cmp fs gs ≡ Less → fields_cmp gs hs ≡ Less → fields_cmp fs hs ≡ Less
  fields_chain (field a v fs) (field b w gs) (field c u hs) e f =
      chain text_cmp text_exact (tied_itself text_total) a b c (text_total.trans a b c) _ _ _
      (chain value_cmp value_exact value_itself v w u (value_chain v w u) (fields_cmp fs gs) (fields_cmp gs hs) (fields_cmp fs hs) (fields_chain fs gs hs)) e f
  fields_chain no_fields no_fields no_fields e f = e
  fields_chain no_fields (field b w gs) no_fields e f = cc
  fields_chain no_fields gs (field c u hs) e f = refl
  fields_chain (field a v fs) no_fields hs e f = cc
  fields_chain (field a v fs) (field b w gs) no_fields e f = cc

pub value_linear : IsLinear value_cmp
value_linear = linear value_cmp value_back value_chain value_exact

pub values_decide : (v w : V) → Decides (value_eq v w) (v ≡ w)
values_decide v w =
    let t = value_linear.tells v w in
    let e = Equal-is (value_cmp v w) in
    (λ h. t.0 (e.0 h), λ h. e.1 (t.1 h))
