-- What comes of attributes in a row is what comes of their list.
use Rattle.std.proofs.Common.{◌≡◌, List, [], ◌∷◌, ◌++◌, map, Bool, Result, Ok, Err, refl, sym, ap, ◌∙◌}
use Rattle.std.proofs.lemmas.List.{map-append}
use Rattle.std.specs.Ordering.{match_ordering}
use Rattle.std.specs.declared.alloc.Global.{Global}
use Rattle.std.specs.declared.rc.RcStr.{RcStr}
use Rattle.std.specs.declared.cmp.Ordering.{Ordering}
use Rattle.std.specs.declared.cmp.Ordering.TheVariants.{Less, Equal, Greater}
use Rattle.cedar_expr_model.specs.Name.{Text, Name}
use Rattle.cedar_expr_model.specs.Order.{text_cmp}
use Rattle.cedar_expr_model.specs.Records.{pair_placed, in_order}
use Rattle.cedar_expr_values.specs.Fields.{by_text}
use Rattle.cedar_schema_model.specs.Types.{Ty, Declared, attribute}
use Rattle.cedar_schema_model.specs.Resolved.{with_attribute}
use Rattle.cedar_schema_decl.specs.Forms.{TypeForm}
use Rattle.cedar_schema_decl.specs.Requalified.{and_then, under_name, each}
use Rattle.cedar_schema_decl.specs.Trees.{Rows, in_a_row, variant_step, record_step, type_step, attribute_step, attribute_form, attribute_rows, record_rows}
use Rattle.cedar_schema_decl.specs.declared.json_schema.RecordType.{RecordType, out-RecordType, fold_out-RecordType}
use Rattle.cedar_schema_decl.specs.declared.json_schema.TypeOfAttribute.{TypeOfAttribute}
use Rattle.cedar_expr_values.proofs.Recorded.{under}
use Rattle.cedar_schema_types.specs.AttributeLists.{attributes_from, declared_pairs}
use Rattle.cedar_schema_types.specs.Types.{attribute_of}
use Rattle.cedar_schema_types.specs.declared.types.AttributeType.{AttributeType}
use Rattle.cedar_schema_types.proofs.InOrder.{pairs_under}
use Rattle.cedar_schema_resolver.specs.Meanings.{Setting}
use Rattle.cedar_schema_resolver.specs.Outcomes.{Refusal, type_outcome, fields_outcome, attribute_outcome}

-- an attribute goes to its place among attributes as its pair does among pairs
placed : (a : Text) (d : Declared) (ps : List (Text × Declared)) → with_attribute a d.type d.is_required (attributes_from ps) ≡ attributes_from (pair_placed a d ps)
placed a d [] = refl
placed a d (p ∷ ps) = go (text_cmp a p.0) (placed a d ps)
  where
    go : (o : Ordering) → with_attribute a d.type d.is_required (attributes_from ps) ≡ attributes_from (pair_placed a d ps)
        → match_ordering o (attribute a d.type d.is_required (attributes_from (p ∷ ps))) (attributes_from (p ∷ ps)) (attribute p.0 p.1.type p.1.is_required (with_attribute a d.type d.is_required (attributes_from ps)))
        ≡ attributes_from (match_ordering o ((a, d) ∷ p ∷ ps) (p ∷ ps) (p ∷ pair_placed a d ps))
    go Less h = refl
    go Equal h = refl
    go Greater h = ap (attribute p.0 p.1.type p.1.is_required) h

row_step : (a : Text) (r : Bool) (o : Result Ty Refusal) (rest : Result (List (Text × Declared)) Refusal)
    → and_then (λ u. and_then (λ as_. Ok (with_attribute a u r as_)) (and_then (λ ps. Ok (attributes_from (in_order ps))) rest)) o
    ≡ and_then (λ ps. Ok (attributes_from (in_order ps))) (and_then (λ y. and_then (λ ys. Ok (y ∷ ys)) rest) (and_then (λ d. Ok (a, d)) (and_then (λ t. Ok (record { type = t; is_required = r })) o)))
row_step a r (Ok u) (Ok ps) = ap Ok (placed a (record { type = u; is_required = r }) (in_order ps))
row_step a r (Ok u) (Err e) = refl
row_step a r (Err e) rest = refl

module _ (s : Setting) where
  rows_are : (rows : Rows Name) → fields_outcome s (in_a_row rows) ≡ and_then (λ ps. Ok (attributes_from (in_order ps))) (each (under_name (attribute_outcome s)) rows)
  rows_are [] = refl
  rows_are (p ∷ ps) =
      ap (λ rest. and_then (λ u. and_then (λ as_. Ok (with_attribute p.0 u p.1.1 as_)) rest) (type_outcome s p.1.0)) (rows_are ps)
      ∙ row_step p.0 p.1.1 (type_outcome s p.1.0) (each (under_name (attribute_outcome s)) ps)

  pub rows_made : (rows : Rows Name) (made : List (Text × Declared)) → each (under_name (attribute_outcome s)) rows ≡ Ok made → fields_outcome s (in_a_row rows) ≡ Ok (attributes_from (in_order made))
  rows_made rows made h = rows_are rows ∙ ap (and_then (λ ps. Ok (attributes_from (in_order ps)))) h

  pub rows_refused : (rows : Rows Name) (r : Refusal) → each (under_name (attribute_outcome s)) rows ≡ Err r → fields_outcome s (in_a_row rows) ≡ Err r
  rows_refused rows r h = rows_are rows ∙ ap (and_then (λ ps. Ok (attributes_from (in_order ps)))) h

-- the attributes of a record that is opened
module _ {N A : Type 0} (f : N → A) where
  twice : (es : List (RcStr Global × TypeOfAttribute N)) → map by_text (map (λ e. (e.0, attribute_form f e.1)) es) ≡ attribute_rows f es
  twice [] = refl
  twice (e ∷ es) = ap (λ rows. by_text (e.0, attribute_form f e.1) ∷ rows) (twice es)

  pub opened : (r : RecordType N) → record_rows f r ≡ attribute_rows f (out-RecordType N r).attributes.entries
  opened r = fold_out-RecordType N (TypeForm A) (Rows A) (TypeForm A) (TypeForm A × Bool) (variant_step f) record_step type_step attribute_step r ∙ twice (out-RecordType N r).attributes.entries

-- one more of what is declared
pub one_more : (es fs : List (RcStr Global × AttributeType)) (a : Text) (t : AttributeType) → map by_text fs ≡ map by_text es ++ (a, t) ∷ [] → declared_pairs fs ≡ declared_pairs es ++ (a, attribute_of t) ∷ []
one_more es fs a t h =
    sym (pairs_under fs) ∙ ap (map (under attribute_of)) h ∙ map-append (under attribute_of) (map by_text es) ((a, t) ∷ []) ∙ ap (λ ps. ps ++ (a, attribute_of t) ∷ []) (pairs_under es)
