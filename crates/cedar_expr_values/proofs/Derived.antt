-- The derived order of values is that of the model's values.
use denote.RattleType.{RattleType}
use mir.Syntax.{Dict}
use Rattle.std.proofs.Common.{◌≡◌, Bool, refl, ap, ◌∙◌}
use Rattle.std.specs.Ordering.{is_eq}
use Rattle.std.specs.declared.cmp.Ordering.{Ordering}
use Rattle.std.specs.declared.cmp.Ord as Ord
use Rattle.std.specs.declared.cmp.Eq as Eq
use Rattle.std.specs.declared.cmp.PartialEq as PartialEq
use Rattle.std.specs.declared.cmp.PartialOrd as PartialOrd
use Rattle.cedar_expr_values.specs.contracts.value.ValueOrd.TheImpl as value_order
use Rattle.cedar_expr_leaves.specs.contracts.literal.LiteralOrd.TheImpl.Laws as literal_laws
use Rattle.cedar_expr_values.specs.contracts.value.ValuePartialEq.TheImpl as value_equality
use Rattle.cedar_expr_values.specs.contracts.value.ValueKindOrd.TheImpl as kind_order
use Rattle.cedar_expr_values.specs.contracts.value.ValueKindPartialEq.TheImpl as kind_equality
use Rattle.cedar_expr_values.specs.declared.extension.ExtensionValue as ExtensionValue
use Rattle.cedar_expr_values.specs.declared.value.Value.{Value}
use Rattle.cedar_expr_values.specs.declared.value.ValueKind.{ValueKind}
use Rattle.cedar_expr_values.specs.declared.value.ValueKind.TheVariants as variants
use Rattle.cedar_expr_model.specs.Order.{value_cmp, value_eq}
use Rattle.cedar_expr_leaves.proofs.Literals.{literals_cmp_is}
use Rattle.cedar_expr_values.specs.Extension.{extension_cmp}
use Rattle.cedar_expr_values.specs.Values.{bare, bare_kind}

module _ (X : RattleType) (ext : ExtensionValue.Ghosts X.Denot) (ext_dict : Dict) (ord : Ord.Ghosts X.Denot) (ord_dict : Dict) (eq : Eq.Ghosts X.Denot) (eq_dict : Dict)
    (peq : PartialEq.Ghosts X.Denot) (peq_dict : Dict) (pord : PartialOrd.Ghosts X.Denot) (pord_dict : Dict) (drop_dict : Dict) where
  -- the derived orders
  abbrev pub value_by : Value X.Denot → Value X.Denot → Ordering
  value_by = (value_order.ghosts X ext ext_dict ord ord_dict eq eq_dict peq peq_dict pord pord_dict drop_dict).cmp

  abbrev pub kind_by : ValueKind X.Denot → ValueKind X.Denot → Ordering
  kind_by = (kind_order.ghosts X ext ext_dict ord ord_dict eq eq_dict peq peq_dict pord pord_dict drop_dict).cmp

  kind_is : ((x y : X.Denot) → ord.cmp x y ≡ extension_cmp (ext.seen x) (ext.seen y)) → (k l : ValueKind X.Denot) → kind_by k l ≡ value_cmp (bare_kind ext.seen k) (bare_kind ext.seen l)
  kind_is by_key (variants.Lit p) (variants.Lit q) = literals_cmp_is p q
  kind_is by_key (variants.Set s) (variants.Set t) = refl
  kind_is by_key (variants.Record r) (variants.Record q) = refl
  kind_is by_key (variants.ExtensionValue x) (variants.ExtensionValue y) = by_key x.value y.value
  kind_is by_key k l = refl

  -- values are compared as the model's
  pub compared_is : ((x y : X.Denot) → ord.cmp x y ≡ extension_cmp (ext.seen x) (ext.seen y)) → (v w : Value X.Denot) → value_by v w ≡ value_cmp (bare ext.seen v) (bare ext.seen w)
  compared_is by_key v w = kind_is by_key v.kind w.kind

  -- the derived equalities
  abbrev pub value_same : Value X.Denot → Value X.Denot → Bool
  value_same = (value_equality.ghosts X ext ext_dict ord ord_dict eq eq_dict peq peq_dict pord pord_dict drop_dict).eq

  abbrev pub kind_same : ValueKind X.Denot → ValueKind X.Denot → Bool
  kind_same = (kind_equality.ghosts X ext ext_dict ord ord_dict eq eq_dict peq peq_dict pord pord_dict drop_dict).eq

  kinds_tie : ((x y : X.Denot) → peq.eq x y ≡ is_eq (extension_cmp (ext.seen x) (ext.seen y))) → (k l : ValueKind X.Denot) → kind_same k l ≡ value_eq (bare_kind ext.seen k) (bare_kind ext.seen l)
  kinds_tie by_key (variants.Lit p) (variants.Lit q) = literal_laws.matches_eq-law p q ∙ ap is_eq (literals_cmp_is p q)
  kinds_tie by_key (variants.Set s) (variants.Set t) = refl
  kinds_tie by_key (variants.Record r) (variants.Record q) = refl
  kinds_tie by_key (variants.ExtensionValue x) (variants.ExtensionValue y) = by_key x.value y.value
  kinds_tie by_key k l = refl

  -- values are equal where the model's are
  pub equal_is : ((x y : X.Denot) → peq.eq x y ≡ is_eq (extension_cmp (ext.seen x) (ext.seen y))) → (v w : Value X.Denot) → value_same v w ≡ value_eq (bare ext.seen v) (bare ext.seen w)
  equal_is by_key v w = kinds_tie by_key v.kind w.kind
