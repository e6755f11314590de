-- The attributes of a core type by their entries.
use Rattle.std.proofs.Common.{◌≡◌, true, List, [], ◌∷◌, map, refl, sym, ap, ◌∙◌}
use mathlib.Core.Former.{list, pair, const, this}
use Rattle.std.specs.Map.{values_of}
use Rattle.std.specs.Rc.{rc_str_bytes}
use Rattle.std.specs.declared.alloc.Global.{Global}
use Rattle.std.specs.declared.collections.BTreeMap.{BTreeMap}
use Rattle.std.specs.declared.rc.Rc.{Rc}
use Rattle.std.specs.declared.rc.RcStr.{RcStr}
use Rattle.cedar_expr_model.specs.Records.{in_order, names_rise}
use Rattle.cedar_expr_model.proofs.Ordering.{in_order_stays}
use Rattle.cedar_expr_values.specs.Fields.{by_text}
use Rattle.cedar_expr_values.proofs.Recorded.{under, in_order_under}
use Rattle.cedar_schema_types.specs.CoreTypes.{core_attribute, core_attributes_from}
use Rattle.cedar_schema_types.specs.Views.{core_type_of, core_attributes_of, core_row, texts_of, core_declared_of, core_pair, core_pairs, core_entries}
use Rattle.cedar_schema_types.specs.declared.core_types.CoreAttributes.{CoreAttributes, out-CoreAttributes, roll-CoreAttributes, is-CoreAttributes', rolls-CoreAttributes', Row_of-CoreAttributeType, end_of-CoreAttributeType, more_of-CoreAttributeType, items-the_row-CoreAttributeType, items_hidden-the_row-CoreAttributeType-0}
use Rattle.cedar_schema_types.specs.declared.core_types.CoreAttributeType.{CoreAttributeType}
use Rattle.cedar_schema_types.specs.declared.core_types.CoreSchemaType.TheBlock.{hidden-the_row-CoreAttributeType-0, shape-the_row-CoreAttributeType-0}

row_is : (n : _) (row : Row_of-CoreAttributeType n) (es : List (RcStr Global × CoreAttributeType)) → items-the_row-CoreAttributeType n row ≡ values_of es → core_row (texts_of es) row ≡ core_attributes_from (core_pairs es)
row_is n end_of-CoreAttributeType [] e = refl
row_is n end_of-CoreAttributeType (x ∷ es) e = absurd (cc)
row_is n (more_of-CoreAttributeType t r rest) [] e = absurd (cc)
row_is n (more_of-CoreAttributeType t r rest) (x ∷ es) e =
    let first : CoreAttributeType = record { attr_type = t; required = r } in
    let same : first ≡ x.1 = cc in
    ap (core_attribute (rc_str_bytes x.0) (core_type_of t) r) (row_is _ rest es (cc))
    ∙ ap (λ (y : CoreAttributeType). core_attribute (rc_str_bytes x.0) (core_type_of y.attr_type) y.required (core_attributes_from (core_pairs es))) same

names_kept : (es : List (RcStr Global × CoreAttributeType)) → texts_of ((list (pair (const (RcStr Global)) (this {0}))).shape CoreAttributeType es) ≡ texts_of es
names_kept [] = refl
names_kept (x ∷ es) = ap (λ ns. rc_str_bytes x.0 ∷ ns) (names_kept es)

-- attributes that are made of a map are those of its entries
pub attributes_made : (m : Rc (BTreeMap (RcStr Global) CoreAttributeType Global) Global) → core_attributes_of (roll-CoreAttributes (record { attrs = m })) ≡ core_attributes_from (core_pairs m.value.entries)
unfolding shape-the_row-CoreAttributeType-0
attributes_made m =
    let row = hidden-the_row-CoreAttributeType-0 m.value in
    ap core_attributes_of (rolls-CoreAttributes' (record { attrs = m }))
    ∙ ap (λ ns. core_row ns row) (names_kept m.value.entries)
    ∙ row_is _ row m.value.entries (items_hidden-the_row-CoreAttributeType-0 m.value)

-- attributes are those of their entries
pub attributes_are : (a : CoreAttributes) → core_attributes_of a ≡ core_attributes_from (core_pairs (core_entries a))
unfolding shape-the_row-CoreAttributeType-0
attributes_are a =
    let m = (out-CoreAttributes a).attrs.value in
    let row = hidden-the_row-CoreAttributeType-0 m in
    ap core_attributes_of (is-CoreAttributes' a)
    ∙ ap (λ ns. core_row ns row) (names_kept m.entries)
    ∙ row_is _ row m.entries (items_hidden-the_row-CoreAttributeType-0 m)

pairs_under : (es : List (RcStr Global × CoreAttributeType)) → map (under core_declared_of) (map by_text es) ≡ core_pairs es
pairs_under [] = refl
pairs_under (e ∷ es) = ap (λ ps. core_pair e ∷ ps) (pairs_under es)

-- those that are made of pairs whose names rise are those pairs
pub made_of_pairs : (m : Rc (BTreeMap (RcStr Global) CoreAttributeType Global) Global) (ps : List (RcStr Global × CoreAttributeType)) → map by_text m.value.entries ≡ in_order (map by_text ps) → names_rise (core_pairs ps) ≡ true
    → core_attributes_of (roll-CoreAttributes (record { attrs = m })) ≡ core_attributes_from (core_pairs ps)
made_of_pairs m ps h rise =
    attributes_made m
    ∙ ap core_attributes_from
    (sym (pairs_under m.value.entries) ∙ ap (map (under core_declared_of)) h ∙ sym (in_order_under core_declared_of (map by_text ps)) ∙ ap in_order (pairs_under ps) ∙ in_order_stays (core_pairs ps) rise)
