-- Attributes and tags by their names, as the model's and with their places.
use Rattle.std.proofs.Common.{◌≡◌, Bool, true, false, cond, List, [], ◌∷◌, map, Option, Some, None, option_map, refl, sym, ap, ◌∙◌}
use Rattle.std.proofs.lemmas.Map.Text.{is_eq-slice_cmp}
use Rattle.std.specs.Borrow.{Bor}
use Rattle.std.specs.BTreeMap.{is_at}
use Rattle.std.specs.Map.{lookup}
use Rattle.std.specs.Option.{option_copied}
use Rattle.std.specs.Ordering.{is_eq}
use Rattle.std.specs.Rc.{rc_str_bytes}
use Rattle.std.specs.Str.{bytes_eq}
use Rattle.std.specs.declared.alloc.Global.{Global}
use Rattle.std.specs.declared.rc.RcStr.{RcStr}
use Rattle.cedar_expr_model.specs.Name.{Text}
use Rattle.cedar_expr_model.specs.Order.{text_cmp}
use Rattle.cedar_expr_model.specs.Records.{in_order}
use Rattle.cedar_expr_values.specs.Fields.{by_text}
use Rattle.cedar_expr_values.specs.declared.extension.ExtValue.{ExtValue}
use Rattle.cedar_expr_values.proofs.Recorded.{under, in_order_under}
use Rattle.cedar_expr_partial.specs.declared.partial_value.PartialValue.{PartialValue}
use Rattle.cedar_store_entities.specs.Views.{part_pair, names_in}

-- the names
pub names_are : (es : List (RcStr Global × PartialValue ExtValue)) → map rc_str_bytes (map (λ e. e.0) es) ≡ names_in (map part_pair es)
names_are [] = refl
names_are (e ∷ es) = ap (λ ns. rc_str_bytes e.0 ∷ ns) (names_are es)

-- what is seen of an attribute or a tag, be it its value or its place
module _ {A : Type 0} (see : PartialValue ExtValue → A) where
  abbrev seen_pair : RcStr Global × PartialValue ExtValue → Text × A
  seen_pair p = (rc_str_bytes p.0, see p.1)

  parts_under : (es : List (RcStr Global × PartialValue ExtValue)) → map seen_pair es ≡ map (under see) (map by_text es)
  parts_under [] = refl
  parts_under (e ∷ es) = ap (λ ps. seen_pair e ∷ ps) (parts_under es)

  -- the parts of a map made of pairs stand in the order of their names
  pub ordered_parts : (es ps : List (RcStr Global × PartialValue ExtValue)) → map by_text es ≡ in_order (map by_text ps) → map seen_pair es ≡ in_order (map seen_pair ps)
  ordered_parts es ps h = parts_under es ∙ ap (map (under see)) h ∙ sym (in_order_under see (map by_text ps)) ∙ ap in_order (sym (parts_under ps))

  chosen : (s t : Bool) → s ≡ t → (a : PartialValue ExtValue) (o : Option (PartialValue ExtValue)) (p : Option A) → option_map see o ≡ p → option_map see (cond s (Some a) o) ≡ cond t (Some (see a)) p
  chosen s true e a o p h = ap (λ b. option_map see (cond b (Some a) o)) e
  chosen s false e a o p h = ap (λ b. option_map see (cond b (Some a) o)) e ∙ h

  found : (k : Text) (es : List (RcStr Global × PartialValue ExtValue)) → option_map see (lookup (is_at (λ j. text_cmp k (rc_str_bytes j))) es) ≡ lookup (bytes_eq k) (map seen_pair es)
  found k [] = refl
  found k (e ∷ es) = chosen (is_eq (text_cmp k (rc_str_bytes e.0))) (bytes_eq k (rc_str_bytes e.0)) (is_eq-slice_cmp k (rc_str_bytes e.0)) e.1 (lookup (is_at (λ j. text_cmp k (rc_str_bytes j))) es) (lookup (bytes_eq k) (map seen_pair es)) (found k es)

  copied : (r : Option (Bor (PartialValue ExtValue))) → option_map (λ a. see a.now) r ≡ option_map see (option_copied r)
  copied None = refl
  copied (Some a) = refl

  -- what a look-up finds
  pub part_found : (k : Text) (es : List (RcStr Global × PartialValue ExtValue)) (r : Option (Bor (PartialValue ExtValue))) → option_copied r ≡ lookup (is_at (λ j. text_cmp k (rc_str_bytes j))) es → option_map (λ a. see a.now) r ≡ lookup (bytes_eq k) (map seen_pair es)
  part_found k es r h = copied r ∙ ap (option_map see) h ∙ found k es
