-- Attributes of a record, as a row and as a list.
use Rattle.std.proofs.Common.{◌≡◌, true, List, [], ◌∷◌, ◌++◌, map, Bool, Result, Ok, Err, refl, sym, ap, ◌∙◌}
use Rattle.std.proofs.lemmas.List.{map-append}
use Rattle.std.specs.Rc.{rc_str_bytes}
use Rattle.std.specs.declared.alloc.Global.{Global}
use Rattle.std.specs.declared.rc.RcStr.{RcStr}
use Rattle.cedar_expr_model.specs.Name.{Text}
use Rattle.std.specs.List.Sorted.{IsStrictlySortedBy}
use Rattle.std.specs.Map.{keys_of}
use Rattle.cedar_expr_model.specs.Lists.{rises}
use Rattle.cedar_expr_model.specs.Order.{text_cmp}
use Rattle.cedar_expr_model.specs.Records.{in_order, names_rise}
use Rattle.cedar_expr_model.proofs.Ordering.{in_order_stays}
use Rattle.cedar_expr_values.specs.Fields.{by_text}
use Rattle.cedar_expr_values.proofs.Ascending.{names_ascend}
use Rattle.cedar_schema_model.specs.Reference.{ReferenceKind}
use Rattle.cedar_schema_decl.specs.Forms.{TypeForm, record_form, FieldForms, field_form}
use Rattle.cedar_schema_decl.specs.Requalified.{and_then, requalified, requalified_fields, requalified_attribute, under_name, each}
use Rattle.cedar_schema_decl.specs.Trees.{Rows, in_a_row, variant_step, record_step, type_step, attribute_step, attribute_form, attribute_rows, record_rows}
use Rattle.cedar_schema_decl.specs.declared.json_schema.Type.{«Type» as Written}
use Rattle.cedar_schema_decl.specs.declared.json_schema.TypeVariant.{TypeVariant}
use Rattle.cedar_schema_decl.specs.declared.json_schema.RecordType.{RecordType, RecordType-F, out-RecordType, roll-RecordType, fold_out-RecordType, fold-roll-RecordType}
use Rattle.cedar_schema_decl.specs.declared.json_schema.TypeOfAttribute.{TypeOfAttribute}

-- what comes of a row is what comes of the list
module _ {A B R : Type 0} (f : ReferenceKind → A → Result B R) where
  abbrev one : Text × (TypeForm A × Bool) → Result (Text × (TypeForm B × Bool)) R
  one p = under_name (requalified_attribute f) p

  row_step : (a : Text) (r : Bool) (o : Result (TypeForm B) R) (rest : Result (Rows B) R) → and_then (λ u. and_then (λ gs. Ok (field_form a u r gs)) (and_then (λ rows. Ok (in_a_row rows)) rest)) o ≡ and_then (λ rows. Ok (in_a_row rows)) (and_then (λ y. and_then (λ ys. Ok (y ∷ ys)) rest) (and_then (λ v. Ok (a, v)) (and_then (λ u. Ok (u, r)) o)))
  row_step a r (Ok u) (Ok rows) = refl
  row_step a r (Ok u) (Err e) = refl
  row_step a r (Err e) rest = refl

  pub rows_are : (rows : Rows A) → requalified_fields f (in_a_row rows) ≡ and_then (λ made. Ok (in_a_row made)) (each one rows)
  rows_are [] = refl
  rows_are (p ∷ ps) = ap (λ rest. and_then (λ u. and_then (λ gs. Ok (field_form p.0 u p.1.1 gs)) rest) (requalified f p.1.0)) (rows_are ps) ∙ row_step p.0 p.1.1 (requalified f p.1.0) (each one ps)

  pub rows_made : (rows : Rows A) (made : Rows B) → each one rows ≡ Ok made → requalified_fields f (in_a_row rows) ≡ Ok (in_a_row made)
  rows_made rows made h = rows_are rows ∙ ap (and_then (λ m. Ok (in_a_row m))) h

  pub rows_refused : (rows : Rows A) (r : R) → each one rows ≡ Err r → requalified_fields f (in_a_row rows) ≡ Err r
  rows_refused rows r h = rows_are rows ∙ ap (and_then (λ m. Ok (in_a_row m))) h

-- attributes of the code
module _ {N A : Type 0} (f : N → A) where
  pub more_rows : (done : List (RcStr Global × TypeOfAttribute N)) (k : RcStr Global) (a : TypeOfAttribute N) → attribute_rows f (done ++ (k, a) ∷ []) ≡ attribute_rows f done ++ (rc_str_bytes k, attribute_form f a) ∷ []
  more_rows done k a = map-append (λ (e : RcStr Global × TypeOfAttribute N). by_text (e.0, attribute_form f e.1)) done ((k, a) ∷ [])

  abbrev shown : Text × TypeOfAttribute N → Text × (TypeForm A × Bool)
  shown p = (p.0, attribute_form f p.1)

  rows_shown : (es : List (RcStr Global × TypeOfAttribute N)) → attribute_rows f es ≡ map shown (map by_text es)
  rows_shown [] = refl
  rows_shown (e ∷ es) = ap (λ rows. by_text (e.0, attribute_form f e.1) ∷ rows) (rows_shown es)

  -- a map of attributes whose names rose as they were gathered
  pub rows_stay : (es ps : List (RcStr Global × TypeOfAttribute N)) → map by_text es ≡ in_order (map by_text ps) → names_rise (map by_text ps) ≡ true → attribute_rows f es ≡ attribute_rows f ps
  rows_stay es ps h r = rows_shown es ∙ ap (map shown) (h ∙ in_order_stays (map by_text ps) r) ∙ sym (rows_shown ps)

  twice : (es : List (RcStr Global × TypeOfAttribute N)) → map by_text (map (λ e. (e.0, attribute_form f e.1)) es) ≡ attribute_rows f es
  twice [] = refl
  twice (e ∷ es) = ap (λ rows. by_text (e.0, attribute_form f e.1) ∷ rows) (twice es)

  -- the attributes of a record that is opened, and of one that is made
  pub opened : (r : RecordType N) → record_rows f r ≡ attribute_rows f (out-RecordType N r).attributes.entries
  opened r = fold_out-RecordType N (TypeForm A) (Rows A) (TypeForm A) (TypeForm A × Bool) (variant_step f) record_step type_step attribute_step r ∙ twice (out-RecordType N r).attributes.entries

  pub rolled : (x : RecordType-F N (TypeVariant N) (RecordType N) (Written N) (TypeOfAttribute N)) → record_rows f (roll-RecordType N x) ≡ attribute_rows f x.attributes.entries
  rolled x = fold-roll-RecordType N (TypeForm A) (Rows A) (TypeForm A) (TypeForm A × Bool) (variant_step f) record_step type_step attribute_step x ∙ twice x.attributes.entries

  shown_names : (es : List (RcStr Global × TypeOfAttribute N)) → map (λ p. p.0) (attribute_rows f es) ≡ map (λ p. p.0) (map by_text es)
  shown_names [] = refl
  shown_names (e ∷ es) = ap (λ ns. rc_str_bytes e.0 ∷ ns) (shown_names es)

-- what comes of attributes has their names
module _ {A B R : Type 0} (f : A → Result B R) where
  same_names : (ps : List (Text × A)) (qs : List (Text × B)) → each (under_name f) ps ≡ Ok qs → map (λ p. p.0) qs ≡ map (λ p. p.0) ps
  same_names [] qs h = let e : [] ≡ qs = cc in ap (map (λ p. p.0)) (sym e)
  same_names (p ∷ ps) qs h = go (f p.1) (each (under_name f) ps) refl h (same_names ps)
    where
      go : (o : Result B R) (rest : Result (List (Text × B)) R) → each (under_name f) ps ≡ rest → and_then (λ y. and_then (λ ys. Ok (y ∷ ys)) rest) (and_then (λ v. Ok (p.0, v)) o) ≡ Ok qs → ((ys : List (Text × B)) → each (under_name f) ps ≡ Ok ys → map (λ q. q.0) ys ≡ map (λ q. q.0) ps) → map (λ q. q.0) qs ≡ p.0 ∷ map (λ q. q.0) ps
      go (Err r) rest e k l = absurd (cc)
      go (Ok v) (Err r) e k l = absurd (cc)
      go (Ok v) (Ok ys) e k l = let n : (p.0, v) ∷ ys ≡ qs = cc in ap (map (λ q. q.0)) (sym n) ∙ ap (λ ns. p.0 ∷ ns) (l ys e)

-- the names of what is made of the attributes of a map rise
pub rows_rise : {N M A B R : Type 0} (f : TypeForm A × Bool → Result (TypeForm B × Bool) R) (before : N → A) (aft : M → B) (rows : Rows A) (es : List (RcStr Global × TypeOfAttribute N)) (made : List (RcStr Global × TypeOfAttribute M)) → rows ≡ attribute_rows before es → each (under_name f) rows ≡ Ok (attribute_rows aft made) → IsStrictlySortedBy (λ a b. text_cmp (rc_str_bytes a) (rc_str_bytes b)) (keys_of es) → names_rise (map by_text made) ≡ true
rows_rise f before aft rows es made e h s =
    ap (rises text_cmp) (sym (shown_names aft made) ∙ same_names f rows (attribute_rows aft made) h ∙ ap (map (λ p. p.0)) e ∙ shown_names before es)
    ∙ names_ascend es s
