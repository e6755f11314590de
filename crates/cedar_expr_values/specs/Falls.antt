-- What stands in a set or a record is smaller than it.
-- Rule: values and equality (docs/RULES.md).
use Rattle.std.specs.Prelude.{◌≡◌, ℕ, ◌≤◌, true, List, [], ◌∷◌, map, refl}
use Rattle.std.proofs.Common.{ap, arith}
use denote.Param.Weighed.{most}
use Rattle.std.specs.List.Sorted.{IsStrictlySortedBy}
use Rattle.std.specs.Map.{keys_of}
use Rattle.std.specs.Rc.{rc_str_bytes}
use Rattle.std.specs.declared.alloc.Global.{Global}
use Rattle.std.specs.declared.rc.RcStr.{RcStr}
use Rattle.std.specs.declared.cmp.Ord as Ord
use Rattle.std.specs.declared.cmp.PartialEq as PartialEq
use Rattle.std.specs.declared.cmp.PartialOrd as PartialOrd
use Rattle.cedar_expr_model.specs.Order.{text_cmp}
use Rattle.cedar_expr_model.specs.Records.{names_rise}
use Rattle.cedar_expr_model.proofs.Lists.{hold_both}
use Rattle.cedar_expr_model.proofs.Rising.{is_less}
use Rattle.cedar_expr_model.proofs.Ordering.{in_order_stays}
use Rattle.cedar_expr_values.specs.Extension.{Extension}
use Rattle.cedar_expr_values.specs.Kept.{made_size, mades_size, made_fields_size}
use Rattle.cedar_expr_values.specs.Values.{made, made_kind, made_list, made_fields, made_pair}
use Rattle.cedar_expr_values.specs.Members.{rising_stays}
use Rattle.cedar_expr_values.specs.Inside.{set_inside, record_inside, MembersRise, NamesRise}
use Rattle.cedar_expr_values.specs.declared.extension.ExtensionValue as ExtensionValue
use Rattle.cedar_expr_values.specs.declared.value.Value.{Value}
use Rattle.cedar_expr_values.specs.declared.value.ValueKind.{ValueKind}
use Rattle.cedar_expr_values.specs.declared.value.ValueKind.TheVariants as variants
use Rattle.cedar_expr_values.specs.declared.value.Set.TheInside.{Inside as SetInside}
use Rattle.cedar_expr_values.specs.declared.value.Record.TheInside.{Inside as RecordInside}
use Rattle.cedar_expr_values.specs.declared.value.Record.TheDeep.{deep-Value, deep-ValueKind, deep-Set, deep-Record}

module _ {X : Type 0} (seen : X → Extension) where
  members_fall : (d : Value X → ℕ) → ((v : Value X) → d v ≤ made_size (made seen v)) → (vs : List (Value X)) → most d vs ≤ mades_size (made_list (map (made seen) vs))
  members_fall d h [] = omega arith
  members_fall d h (v ∷ vs) = let a = h v in let b = members_fall d h vs in omega arith

  fields_fall : (d : Value X → ℕ) → ((v : Value X) → d v ≤ made_size (made seen v)) → (es : List (RcStr Global × Value X))
      → most d (map (λ e. e.1) es) ≤ made_fields_size (made_fields (map (made_pair seen) es))
  fields_fall d h [] = omega arith
  fields_fall d h (e ∷ es) = let a = h e.1 in let b = fields_fall d h es in omega arith

  -- the names that rise by the code's order rise by the model's
  pub names_up : (es : List (RcStr Global × Value X)) → IsStrictlySortedBy (λ b c. text_cmp (rc_str_bytes b) (rc_str_bytes c)) (keys_of es) → names_rise (map (made_pair seen) es) ≡ true
  unfolding IsStrictlySortedBy
  names_up [] s = refl
  names_up (e ∷ []) s = refl
  names_up (e ∷ f ∷ es) s = hold_both _ _ (is_less (text_cmp (rc_str_bytes e.0) (rc_str_bytes f.0)) (s.0).0) (names_up (f ∷ es) s.1)

  -- as it holds them inside, so it is seen
  pub set_is : (a : SetInside X) → MembersRise seen a → (set_inside seen a).0 ≡ made_list (map (made seen) a.members.value.values.items)
  set_is a h = ap made_list (rising_stays (map (made seen) a.members.value.values.items) h)

  pub record_is : (a : RecordInside X) → NamesRise seen a → (record_inside seen a).0 ≡ made_fields (map (made_pair seen) a.fields.value.entries)
  record_is a h = ap made_fields (in_order_stays (map (made_pair seen) a.fields.value.entries) (names_up a.fields.value.entries h))

module _ {X : Type 0} (ext : ExtensionValue.Ghosts X) (ord : Ord.Ghosts X) (peq : PartialEq.Ghosts X) (pord : PartialOrd.Ghosts X) where
  kind_falls : (k : ValueKind X) → deep-ValueKind X ext ord peq pord k ≤ made_size (made_kind ext.seen k)
  kind_falls (variants.Lit l) = omega arith
  kind_falls (variants.Set s) = omega arith
  kind_falls (variants.Record r) = omega arith
  kind_falls (variants.ExtensionValue x) = omega arith

  value_falls : (v : Value X) → deep-Value X ext ord peq pord v ≤ made_size (made ext.seen v)
  value_falls v = let h = kind_falls v.kind in omega arith

  pub set_falls : (a : SetInside X) → MembersRise ext.seen a → deep-Set X ext ord peq pord a ≤ mades_size (set_inside ext.seen a).0
  set_falls a h =
      let b = members_fall ext.seen (deep-Value X ext ord peq pord) value_falls a.members.value.values.items in
      let e = ap mades_size (set_is ext.seen a h) in
      omega arith

  pub record_falls : (a : RecordInside X) → NamesRise ext.seen a → deep-Record X ext ord peq pord a ≤ made_fields_size (record_inside ext.seen a).0
  record_falls a h =
      let b = fields_fall ext.seen (deep-Value X ext ord peq pord) value_falls a.fields.value.entries in
      let e = ap made_fields_size (record_is ext.seen a h) in
      omega arith
