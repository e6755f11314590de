-- Annotations by their names, as pairs of a name and what is seen of an annotation.
use Rattle.std.proofs.Common.{◌≡◌, Bool, true, false, cond, List, [], ◌∷◌, map, Option, Some, None, option_map, refl, ap, ◌∙◌}
use Rattle.std.proofs.lemmas.Map.Text.{is_eq-slice_cmp}
use Rattle.std.specs.Borrow.{Bor}
use Rattle.std.specs.BTreeMap.{insert_entry, is_at}
use Rattle.std.specs.Map.{lookup}
use Rattle.std.specs.Ordering.{match_ordering, is_eq}
use Rattle.std.specs.Option.{option_copied}
use Rattle.std.specs.Str.{bytes_eq}
use Rattle.std.specs.declared.cmp.Ordering.{Ordering}
use Rattle.std.specs.declared.cmp.Ordering.TheVariants.{Less, Equal, Greater}
use Rattle.cedar_expr_model.specs.Name.{Text}
use Rattle.cedar_expr_model.specs.Order.{text_cmp}
use Rattle.cedar_expr_names.specs.Views.{any_id_text}
use Rattle.cedar_expr_names.specs.declared.any_id.AnyId.{AnyId}
use Rattle.cedar_store_parts.specs.declared.annotation.Annotation.{Annotation}

module _ {B : Type 0} (see : Annotation → B) where
  abbrev paired : AnyId × Annotation → Text × B
  paired e = (any_id_text e.0, see e.1)

  -- one more entry is one more pair
  pub pairs_put : (es : List (AnyId × Annotation)) (k : AnyId) (v : Annotation) → map paired (insert_entry (λ i j. text_cmp (any_id_text i) (any_id_text j)) es k v) ≡ insert_entry text_cmp (map paired es) (any_id_text k) (see v)
  pairs_put [] k v = refl
  pairs_put (e ∷ es) k v = go (text_cmp (any_id_text k) (any_id_text e.0)) (pairs_put es k v)
    where
      go : (r : Ordering) → map paired (insert_entry (λ i j. text_cmp (any_id_text i) (any_id_text j)) es k v) ≡ insert_entry text_cmp (map paired es) (any_id_text k) (see v)
          → map paired (match_ordering r ((k, v) ∷ e ∷ es) ((e.0, v) ∷ es) (e ∷ insert_entry (λ i j. text_cmp (any_id_text i) (any_id_text j)) es k v)) ≡ match_ordering r ((any_id_text k, see v) ∷ paired e ∷ map paired es) ((any_id_text e.0, see v) ∷ map paired es) (paired e ∷ insert_entry text_cmp (map paired es) (any_id_text k) (see v))
      go Less h = refl
      go Equal h = refl
      go Greater h = ap (λ ps. paired e ∷ ps) h

  chosen : (s t : Bool) → s ≡ t → (a : Annotation) (o : Option Annotation) (p : Option B) → option_map see o ≡ p → option_map see (cond s (Some a) o) ≡ cond t (Some (see a)) p
  chosen s true e a o p h = ap (λ b. option_map see (cond b (Some a) o)) e
  chosen s false e a o p h = ap (λ b. option_map see (cond b (Some a) o)) e ∙ h

  -- what stands under a name
  found : (k : AnyId) (es : List (AnyId × Annotation)) → option_map see (lookup (is_at (λ j. text_cmp (any_id_text k) (any_id_text j))) es) ≡ lookup (bytes_eq (any_id_text k)) (map paired es)
  found k [] = refl
  found k (e ∷ es) = chosen (is_eq (text_cmp (any_id_text k) (any_id_text e.0))) (bytes_eq (any_id_text k) (any_id_text e.0)) (is_eq-slice_cmp (any_id_text k) (any_id_text e.0)) e.1 (lookup (is_at (λ j. text_cmp (any_id_text k) (any_id_text j))) es) (lookup (bytes_eq (any_id_text k)) (map paired es)) (found k es)

  copied : (r : Option (Bor Annotation)) → option_map (λ a. see a.now) r ≡ option_map see (option_copied r)
  copied None = refl
  copied (Some a) = refl

  -- what a look-up finds
  pub seen_found : (k : AnyId) (es : List (AnyId × Annotation)) (r : Option (Bor Annotation)) → option_copied r ≡ lookup (is_at (λ j. text_cmp (any_id_text k) (any_id_text j))) es → option_map (λ a. see a.now) r ≡ lookup (bytes_eq (any_id_text k)) (map paired es)
  seen_found k es r h = copied r ∙ ap (option_map see) h ∙ found k es
