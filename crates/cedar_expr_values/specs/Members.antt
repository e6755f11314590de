-- The set of these values and the record of these fields, as they are kept: canonical, since what stands in them is.
-- Rule: values and equality (docs/RULES.md).
use Rattle.std.specs.Prelude.{◌≡◌, true, ◌&&◌, List, [], ◌∷◌, map, refl}
use Rattle.std.proofs.Common.{sym, ap, ◌∙◌}
use Rattle.std.specs.List.{list_all}
use Rattle.std.specs.Ordering.{match_ordering}
use Rattle.std.specs.declared.alloc.Global.{Global}
use Rattle.std.specs.declared.rc.RcStr.{RcStr}
use Rattle.std.specs.declared.cmp.Ordering.{Ordering}
use Rattle.std.specs.declared.cmp.Ordering.TheVariants.{Less, Equal, Greater}
use Rattle.cedar_expr_model.specs.Name.{Text}
use Rattle.cedar_expr_model.specs.Value.{V, set_of, record_of, field, value}
use Rattle.cedar_expr_model.specs.Order.{text_cmp}
use Rattle.cedar_expr_model.specs.Canonical.{is_canonical, are_rising, members_made, inserted}
use Rattle.cedar_expr_model.specs.Records.{pair_placed, in_order, fields, record_made}
use Rattle.cedar_expr_model.specs.Made as model
use Rattle.cedar_expr_model.specs.Made.{Made, made_record}
use Rattle.cedar_expr_model.proofs.Lists.{hold_both}
use Rattle.cedar_expr_model.proofs.Rising.{rising_parts, less_is}
use Rattle.cedar_expr_model.proofs.ValueOrder.{value_exact}
use Rattle.cedar_expr_model.proofs.Sets.{made_canonical}
use Rattle.cedar_expr_model.proofs.Ordering.{record_canonical}
use Rattle.cedar_expr_values.specs.Extension.{Extension}
use Rattle.cedar_expr_values.specs.Kept.{KeptSet, KeptRecord}
use Rattle.cedar_expr_values.specs.Rising.{placed, in_rising}
use Rattle.cedar_expr_values.specs.Values.{made, bare, bare_kind, made_list, made_fields, made_cmp, members_as_made, record_as_made, made_pair, bare_pair, values_of, all_canonical}
use Rattle.cedar_expr_values.specs.declared.value.Value.{Value}
use Rattle.cedar_expr_values.specs.declared.value.ValueKind.{ValueKind}
use Rattle.cedar_expr_values.specs.declared.value.ValueKind.TheVariants.{Lit, Set as SetKind, Record as RecordKind, ExtensionValue}

-- the set that is made, without the calls
bare_placed : (m : Made) (ms : List Made) → model.bares (made_list (placed made_cmp m ms)) ≡ inserted (model.bare m) (model.bares (made_list ms))
bare_placed m [] = refl
bare_placed m (n ∷ ms) = go (made_cmp m n) refl (bare_placed m ms)
  where
    go : (r : Ordering) → made_cmp m n ≡ r → model.bares (made_list (placed made_cmp m ms)) ≡ inserted (model.bare m) (model.bares (made_list ms))
        → model.bares (made_list (match_ordering r (m ∷ n ∷ ms) (m ∷ ms) (n ∷ placed made_cmp m ms)))
        ≡ match_ordering r (value (model.bare m) (value (model.bare n) (model.bares (made_list ms)))) (value (model.bare n) (model.bares (made_list ms)))
        (value (model.bare n) (inserted (model.bare m) (model.bares (made_list ms))))
    go Less e h = refl
    go Equal e h = ap (λ v. value v (model.bares (made_list ms))) (value_exact (model.bare m) (model.bare n) e)
    go Greater e h = ap (value (model.bare n)) h

pub bare_members : {A : Type 0} (f : A → Made) (xs : List A) → model.bares (members_as_made (map f xs)) ≡ members_made (map (λ x. model.bare (f x)) xs)
bare_members f [] = refl
bare_members f (x ∷ xs) = bare_placed (f x) (in_rising made_cmp (map f xs)) ∙ ap (inserted (model.bare (f x))) (bare_members f xs)

-- what rises stays
placed_first : (m : Made) (ms : List Made) → are_rising (value (model.bare m) (model.bares (made_list ms))) ≡ true → placed made_cmp m ms ≡ m ∷ ms
placed_first m [] h = refl
placed_first m (n ∷ ms) h = let e = less_is (made_cmp m n) (rising_parts (model.bare m) (model.bares (made_list (n ∷ ms))) h).0 in ap (λ r. match_ordering r (m ∷ n ∷ ms) (m ∷ ms) (n ∷ placed made_cmp m ms)) e

pub rising_stays : (ms : List Made) → are_rising (model.bares (made_list ms)) ≡ true → in_rising made_cmp ms ≡ ms
rising_stays [] h = refl
rising_stays (m ∷ ms) h = ap (placed made_cmp m) (rising_stays ms (rising_parts (model.bare m) (model.bares (made_list ms)) h).1) ∙ placed_first m ms h

-- what stands under the names, changed
abbrev pub under : {A B : Type 0} → (A → B) → Text × A → Text × B
under f p = (p.0, f p.1)

placed_under : {A B : Type 0} (f : A → B) (p : Text × A) (qs : List (Text × A)) → pair_placed p.0 (f p.1) (map (under f) qs) ≡ map (under f) (pair_placed p.0 p.1 qs)
placed_under f p [] = refl
placed_under f p (q ∷ qs) = go (text_cmp p.0 q.0) (placed_under f p qs)
  where
    go : (r : Ordering) → pair_placed p.0 (f p.1) (map (under f) qs) ≡ map (under f) (pair_placed p.0 p.1 qs)
        → match_ordering r (under f p ∷ under f q ∷ map (under f) qs) (under f q ∷ map (under f) qs) (under f q ∷ pair_placed p.0 (f p.1) (map (under f) qs))
        ≡ map (under f) (match_ordering r (p ∷ q ∷ qs) (q ∷ qs) (q ∷ pair_placed p.0 p.1 qs))
    go Less h = refl
    go Equal h = refl
    go Greater h = ap (λ us. under f q ∷ us) h

pub in_order_under : {A B : Type 0} (f : A → B) (ps : List (Text × A)) → in_order (map (under f) ps) ≡ map (under f) (in_order ps)
in_order_under f [] = refl
in_order_under f (p ∷ ps) = ap (pair_placed p.0 (f p.1)) (in_order_under f ps) ∙ placed_under f p (in_order ps)

pub bare_made_fields : (ps : List (Text × Made)) → model.bare_fields (made_fields ps) ≡ fields (map (under model.bare) ps)
bare_made_fields [] = refl
bare_made_fields (p ∷ ps) = ap (field p.0 (model.bare p.1)) (bare_made_fields ps)

module _ {X : Type 0} (seen : X → Extension) where
  -- each value is canonical: its type says so
  pub kind_kept : (k : ValueKind X) → is_canonical (bare_kind seen k) ≡ true
  kind_kept (Lit l) = refl
  kind_kept (SetKind s) = s.1
  kind_kept (RecordKind r) = r.1
  kind_kept (ExtensionValue x) = refl

  pub value_kept : (v : Value X) → is_canonical (bare seen v) ≡ true
  value_kept v = kind_kept v.kind

  pub all_kept : (vs : List (Value X)) → all_canonical seen vs ≡ true
  all_kept [] = refl
  all_kept (v ∷ vs) = hold_both _ _ (value_kept v) (all_kept vs)

  abbrev pub kept_members : List (Value X) → KeptSet
  kept_members vs = (members_as_made (map (made seen) vs), ap (λ ws. is_canonical (set_of ws)) (bare_members (made seen) vs) ∙ made_canonical (map (bare seen) vs) (all_kept vs))

  pub made_bare : (es : List (RcStr Global × Value X)) → map (under model.bare) (map (made_pair seen) es) ≡ map (bare_pair seen) es
  made_bare [] = refl
  made_bare (e ∷ es) = ap (λ ps. bare_pair seen e ∷ ps) (made_bare es)

  pub recorded_bare : (ps : List (RcStr Global × Value X)) → model.bare (record_as_made (map (made_pair seen) ps)) ≡ record_made (map (bare_pair seen) ps)
  recorded_bare ps =
      ap record_of (bare_made_fields (in_order (map (made_pair seen) ps)))
      ∙ ap (λ qs. record_of (fields qs)) (sym (in_order_under model.bare (map (made_pair seen) ps)) ∙ ap in_order (made_bare ps))

  under_names : (ps : List (RcStr Global × Value X)) → list_all (λ (p : Text × V). is_canonical p.1) (map (bare_pair seen) ps) ≡ all_canonical seen (values_of ps)
  under_names [] = refl
  under_names (p ∷ ps) = ap (λ t. is_canonical (bare seen p.1) && t) (under_names ps)

  pub recorded_canonical : (ps : List (RcStr Global × Value X)) → is_canonical (record_made (map (bare_pair seen) ps)) ≡ true
  recorded_canonical ps = record_canonical (map (bare_pair seen) ps) (under_names ps ∙ all_kept (values_of ps))

  abbrev pub kept_fields : List (RcStr Global × Value X) → KeptRecord
  kept_fields es = (made_fields (in_order (map (made_pair seen) es)), ap is_canonical (recorded_bare es) ∙ recorded_canonical es)
