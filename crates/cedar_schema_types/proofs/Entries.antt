-- The attributes of a type by their entries.
use Rattle.std.proofs.Common.{◌≡◌, List, [], ◌∷◌, map, refl, ap, ◌∙◌}
use mathlib.Core.Former.{list, pair, const, this}
use Rattle.std.specs.Map.{values_of, keys_of}
use Rattle.std.specs.Rc.{rc_str_bytes}
use Rattle.std.specs.declared.alloc.Global.{Global}
use Rattle.std.specs.declared.collections.BTreeMap.{BTreeMap}
use Rattle.std.specs.declared.rc.Rc.{Rc}
use Rattle.std.specs.declared.rc.RcStr.{RcStr}
use Rattle.cedar_schema_model.specs.Types.{attribute}
use Rattle.cedar_schema_types.specs.Types.{type_of, attributes_of, row_attributes, texts_of, entries_of}
use Rattle.cedar_schema_types.specs.AttributeLists.{attributes_from, declared_pairs, names_in}
use Rattle.cedar_schema_types.specs.declared.types.Attributes.{Attributes, Attributes', out-Attributes, roll-Attributes, is-Attributes', rolls-Attributes', Row_of-AttributeType, end_of-AttributeType, more_of-AttributeType, items-the_row-AttributeType, items_hidden-the_row-AttributeType-0}
use Rattle.cedar_schema_types.specs.declared.types.AttributeType.{AttributeType}
use Rattle.cedar_schema_types.specs.declared.types.Type.TheBlock.{hidden-the_row-AttributeType-0, shape-the_row-AttributeType-0}

row_attributes_are : (n : _) (row : Row_of-AttributeType n) (es : List (RcStr Global × AttributeType)) → items-the_row-AttributeType n row ≡ values_of es → row_attributes (texts_of es) row ≡ attributes_from (declared_pairs es)
row_attributes_are n end_of-AttributeType [] e = refl
row_attributes_are n end_of-AttributeType (x ∷ es) e = absurd (cc)
row_attributes_are n (more_of-AttributeType t r l rest) [] e = absurd (cc)
row_attributes_are n (more_of-AttributeType t r l rest) (x ∷ es) e =
    let first : AttributeType = record { attr_type = t; is_required = r; loc = l } in
    let same : first ≡ x.1 = cc in
    ap (attribute (rc_str_bytes x.0) (type_of t) r) (row_attributes_are _ rest es (cc))
    ∙ ap (λ (y : AttributeType). attribute (rc_str_bytes x.0) (type_of y.attr_type) y.is_required (attributes_from (declared_pairs es))) same

names_kept : (es : List (RcStr Global × AttributeType)) → texts_of ((list (pair (const (RcStr Global)) (this {0}))).shape AttributeType es) ≡ texts_of es
names_kept [] = refl
names_kept (x ∷ es) = ap (λ ns. rc_str_bytes x.0 ∷ ns) (names_kept es)

-- attributes that are made of a map are those of its entries
pub attributes_made : (m : Rc (BTreeMap (RcStr Global) AttributeType Global) Global) → attributes_of (roll-Attributes (record { attrs = m })) ≡ attributes_from (declared_pairs m.value.entries)
unfolding shape-the_row-AttributeType-0
attributes_made m =
    let row = hidden-the_row-AttributeType-0 m.value in
    ap attributes_of (rolls-Attributes' (record { attrs = m }))
    ∙ ap (λ ns. row_attributes ns row) (names_kept m.value.entries)
    ∙ row_attributes_are _ row m.value.entries (items_hidden-the_row-AttributeType-0 m.value)

-- attributes are those of their entries
pub attributes_are : (a : Attributes) → attributes_of a ≡ attributes_from (declared_pairs (entries_of a))
unfolding shape-the_row-AttributeType-0
attributes_are a =
    let m = (out-Attributes a).attrs.value in
    let row = hidden-the_row-AttributeType-0 m in
    ap attributes_of (is-Attributes' a)
    ∙ ap (λ ns. row_attributes ns row) (names_kept m.entries)
    ∙ row_attributes_are _ row m.entries (items_hidden-the_row-AttributeType-0 m)

-- their names are those of the entries
pub names_listed : (es : List (RcStr Global × AttributeType)) → map rc_str_bytes (keys_of es) ≡ names_in (attributes_from (declared_pairs es))
names_listed [] = refl
names_listed (e ∷ es) = ap (λ ns. rc_str_bytes e.0 ∷ ns) (names_listed es)
