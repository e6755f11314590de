-- Lists of members and of fields are compared as the model's where what stands in them is.
use Rattle.std.proofs.Common.{◌≡◌, Bool, ◌&&◌, List, [], ◌∷◌, map, nat_eq, refl, sym, ap, ap₂, ◌∙◌}
use Rattle.std.specs.Ordering.{ordering_then, is_eq, nat_cmp}
use Rattle.std.specs.Rc.{rc_str_bytes}
use Rattle.std.specs.Cmp.Lexicographic.{slice_cmp, lists_ties, texts_ties}
use Rattle.std.specs.declared.alloc.Global.{Global}
use Rattle.std.specs.declared.rc.RcStr.{RcStr}
use Rattle.std.specs.declared.cmp.Ordering.{Ordering}
use Rattle.std.specs.declared.cmp.Ordering.TheVariants.{Less, Equal, Greater}
use lib.Pointwise.{pointwise}
use Rattle.cedar_expr_model.specs.Order.{value_cmp, value_eq, values_cmp, fields_cmp, text_cmp}
use Rattle.cedar_expr_model.specs.Made as model
use Rattle.cedar_expr_values.specs.Extension.{Extension}
use Rattle.cedar_expr_values.specs.Kept.{KeptSet, KeptRecord}
use Rattle.cedar_expr_values.specs.KeptOrder.{kept_set_cmp, kept_record_cmp, kept_set_eq, kept_record_eq}
use Rattle.cedar_expr_values.specs.Inside.{set_inside, record_inside, MembersRise, NamesRise}
use Rattle.cedar_expr_values.specs.Falls.{set_is, record_is}
use Rattle.cedar_expr_values.specs.Values.{made, bare, made_list, made_fields, made_pair}
use Rattle.cedar_expr_values.specs.declared.value.Value.{Value}
use Rattle.cedar_expr_values.specs.declared.value.Set.TheInside.{Inside as SetInside}
use Rattle.cedar_expr_values.specs.declared.value.Record.TheInside.{Inside as RecordInside}

-- by the first, then by the second, then by the rest
then_then : (r s t : Ordering) → ordering_then (ordering_then r s) t ≡ ordering_then r (ordering_then s t)
then_then Less s t = refl
then_then Equal s t = refl
then_then Greater s t = refl

both_equal : (r s : Ordering) → (is_eq r && is_eq s) ≡ is_eq (ordering_then r s)
both_equal Less s = refl
both_equal Equal s = refl
both_equal Greater s = refl

module _ {X : Type 0} (seen : X → Extension) where
  module _ (R : Value X → Value X → Ordering) (agree : (v w : Value X) → R v w ≡ value_cmp (bare seen v) (bare seen w)) where
    lists_agree : (vs ws : List (Value X)) → slice_cmp R vs ws ≡ values_cmp (model.bares (made_list (map (made seen) vs))) (model.bares (made_list (map (made seen) ws)))
    lists_agree [] [] = refl
    lists_agree [] (w ∷ ws) = refl
    lists_agree (v ∷ vs) [] = refl
    lists_agree (v ∷ vs) (w ∷ ws) = ap (λ r. ordering_then r (slice_cmp R vs ws)) (agree v w) ∙ ap (ordering_then (value_cmp (bare seen v) (bare seen w))) (lists_agree vs ws)

    -- names and then values
    abbrev pub fields_by : RcStr Global × Value X → RcStr Global × Value X → Ordering
    fields_by p q = ordering_then (slice_cmp nat_cmp (rc_str_bytes p.0) (rc_str_bytes q.0)) (R p.1 q.1)

    fields_agree : (es fs : List (RcStr Global × Value X)) → slice_cmp fields_by es fs ≡ fields_cmp (model.bare_fields (made_fields (map (made_pair seen) es))) (model.bare_fields (made_fields (map (made_pair seen) fs)))
    fields_agree [] [] = refl
    fields_agree [] (f ∷ fs) = refl
    fields_agree (e ∷ es) [] = refl
    fields_agree (e ∷ es) (f ∷ fs) =
        then_then (text_cmp (rc_str_bytes e.0) (rc_str_bytes f.0)) (R e.1 f.1) (slice_cmp fields_by es fs)
        ∙ ap (λ r. ordering_then (text_cmp (rc_str_bytes e.0) (rc_str_bytes f.0)) (ordering_then r (slice_cmp fields_by es fs))) (agree e.1 f.1)
        ∙ ap (λ r. ordering_then (text_cmp (rc_str_bytes e.0) (rc_str_bytes f.0)) (ordering_then (value_cmp (bare seen e.1) (bare seen f.1)) r)) (fields_agree es fs)

    pub sets_agree : (a b : SetInside X) (vs ws : List (Value X)) (s t : KeptSet) → vs ≡ a.members.value.values.items → ws ≡ b.members.value.values.items → MembersRise seen a → MembersRise seen b
        → set_inside seen a ≡ s → set_inside seen b ≡ t → slice_cmp R vs ws ≡ kept_set_cmp s t
    sets_agree a b vs ws s t is are h k d e =
        ap₂ (slice_cmp R) is are
        ∙ lists_agree a.members.value.values.items b.members.value.values.items
        ∙ sym (ap₂ (λ ms ns. values_cmp (model.bares ms) (model.bares ns)) (set_is seen a h) (set_is seen b k))
        ∙ ap₂ kept_set_cmp d e

    pub records_agree : (a b : RecordInside X) (s t : KeptRecord) → NamesRise seen a → NamesRise seen b → record_inside seen a ≡ s → record_inside seen b ≡ t
        → slice_cmp fields_by a.fields.value.entries b.fields.value.entries ≡ kept_record_cmp s t
    records_agree a b s t h k d e =
        fields_agree a.fields.value.entries b.fields.value.entries
        ∙ sym (ap₂ (λ ms ns. fields_cmp (model.bare_fields ms) (model.bare_fields ns)) (record_is seen a h) (record_is seen b k))
        ∙ ap₂ kept_record_cmp d e

  module _ (E : Value X → Value X → Bool) (agree : (v w : Value X) → E v w ≡ value_eq (bare seen v) (bare seen w)) where
    abbrev R : Value X → Value X → Ordering
    R v w = value_cmp (bare seen v) (bare seen w)

    pub sets_tie : (a b : SetInside X) (vs ws : List (Value X)) (s t : KeptSet) → vs ≡ a.members.value.values.items → ws ≡ b.members.value.values.items → MembersRise seen a → MembersRise seen b
        → set_inside seen a ≡ s → set_inside seen b ≡ t → pointwise E vs ws ≡ kept_set_eq s t
    sets_tie a b vs ws s t is are h k d e = lists_ties R agree vs ws ∙ ap is_eq (sets_agree R (λ v w. refl) a b vs ws s t is are h k d e)

    pub records_tie : (a b : RecordInside X) (s t : KeptRecord) → NamesRise seen a → NamesRise seen b → record_inside seen a ≡ s → record_inside seen b ≡ t
        → pointwise (λ p q. pointwise nat_eq (rc_str_bytes p.0) (rc_str_bytes q.0) && E p.1 q.1) a.fields.value.entries b.fields.value.entries ≡ kept_record_eq s t
    records_tie a b s t h k d e =
        lists_ties (fields_by R (λ v w. refl)) (λ p q. ap₂ (λ x y. x && y) (texts_ties (rc_str_bytes p.0) (rc_str_bytes q.0)) (agree p.1 q.1) ∙ both_equal _ _) a.fields.value.entries b.fields.value.entries
        ∙ ap is_eq (records_agree R (λ v w. refl) a b s t h k d e)
