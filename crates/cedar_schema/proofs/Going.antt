-- Attributes whose types are well-formed, one after the other.
use Rattle.std.proofs.Common.{◌≡◌, ◌&&◌, true, false, Bool, List, [], ◌∷◌, refl, sym, ap, ◌∙◌}
use Rattle.std.specs.List.Sorted.{IsStrictlySortedBy}
use Rattle.std.specs.Map.{keys_of}
use Rattle.std.specs.Ordering.{is_lt}
use Rattle.std.specs.Rc.{rc_str_bytes}
use Rattle.std.specs.declared.alloc.Global.{Global}
use Rattle.std.specs.declared.rc.RcStr.{RcStr}
use Rattle.cedar_expr_model.specs.Order.{text_cmp}
use Rattle.cedar_expr_model.specs.Records.{names_rise}
use Rattle.cedar_expr_model.proofs.Lists.{hold_both}
use Rattle.cedar_schema_model.specs.OfLaws.Formed.{is_well_formed_type, are_well_formed_attributes}
use Rattle.cedar_schema_types.specs.Types.{type_of, attributes_of, entries_of}
use Rattle.cedar_schema_types.specs.AttributeLists.{attributes_from, declared_pairs}
use Rattle.cedar_schema_types.specs.declared.types.Attributes.{Attributes}
use Rattle.cedar_schema_types.specs.declared.types.AttributeType.{AttributeType}
use Rattle.cedar_schema_types.proofs.Entries.{attributes_are}
use Rattle.cedar_schema_types.proofs.InOrder.{entries_rise}

-- each type is well-formed
abbrev pub all_formed : List (RcStr Global × AttributeType) → Bool
all_formed [] = true
all_formed (e ∷ es) = is_well_formed_type (type_of e.1.attr_type) && all_formed es

-- the next, and the end
pub formed_goes_on : (rest later : List (RcStr Global × AttributeType)) (k : RcStr Global) (d : AttributeType) (whole : Bool) → all_formed rest ≡ whole → rest ≡ (k, d) ∷ later → is_well_formed_type (type_of d.attr_type) ≡ true → all_formed later ≡ whole
formed_goes_on rest later k d whole h is one = ap (λ b. b && all_formed later) (sym one) ∙ ap all_formed (sym is) ∙ h

pub formed_ends : (rest : List (RcStr Global × AttributeType)) (whole : Bool) → all_formed rest ≡ whole → rest ≡ [] → whole ≡ true
formed_ends rest whole h is = sym h ∙ ap all_formed is

-- such attributes are well-formed where their names rise
left_part : (a b : Bool) → (a && b) ≡ true → a ≡ true
left_part true b h = refl
left_part false b h = h

right_part : (a b : Bool) → (a && b) ≡ true → b ≡ true
right_part true b h = h
right_part false b h = absurd (cc)

pub attributes_formed : (es : List (RcStr Global × AttributeType)) → all_formed es ≡ true → names_rise (declared_pairs es) ≡ true → are_well_formed_attributes (attributes_from (declared_pairs es)) ≡ true
attributes_formed [] h r = refl
attributes_formed (e ∷ []) h r = hold_both _ true (left_part _ true h) refl
attributes_formed (e ∷ f ∷ es) h r =
    hold_both _ _ (left_part _ _ h)
    (hold_both _ _ (left_part _ _ r) (attributes_formed (f ∷ es) (right_part (is_well_formed_type (type_of e.1.attr_type)) _ h) (right_part (is_lt (text_cmp (rc_str_bytes e.0) (rc_str_bytes f.0))) _ r)))

pub all_attributes_formed : (a : Attributes) (es : List (RcStr Global × AttributeType)) → es ≡ entries_of a → IsStrictlySortedBy (λ j k. text_cmp (rc_str_bytes j) (rc_str_bytes k)) (keys_of es) → all_formed (entries_of a) ≡ true → are_well_formed_attributes (attributes_of a) ≡ true
all_attributes_formed a es is s h =
    ap are_well_formed_attributes (attributes_are a ∙ ap (λ xs. attributes_from (declared_pairs xs)) (sym is)) ∙ attributes_formed es (ap all_formed is ∙ h) (entries_rise es s)
