-- The names in attributes, one after the other.
use Rattle.std.proofs.Common.{◌≡◌, List, [], ◌∷◌, map, Bool, Option, Some, None, find, refl, sym, ap, ◌∙◌}
use Rattle.std.specs.declared.alloc.Global.{Global}
use Rattle.std.specs.declared.rc.RcStr.{RcStr}
use Rattle.cedar_expr_model.specs.Name.{Text, Name}
use Rattle.cedar_expr_values.specs.Fields.{by_text}
use Rattle.cedar_schema_decl.specs.Conditional.{Conditional}
use Rattle.cedar_schema_decl.specs.Forms.{TypeForm}
use Rattle.cedar_schema_decl.specs.Trees.{Rows, in_a_row, variant_step, record_step, type_step, attribute_step, attribute_form, attribute_rows, record_rows}
use Rattle.cedar_schema_decl.specs.declared.json_schema.RecordType.{RecordType, out-RecordType, fold_out-RecordType}
use Rattle.cedar_schema_decl.specs.declared.json_schema.TypeOfAttribute.{TypeOfAttribute}
use Rattle.cedar_schema_builder.proofs.Finding.{found_before, found_after}
use Rattle.cedar_schema_builder.specs.WrittenNames.{names_in_type, names_in_fields}

-- the attributes of a record that is opened
module _ {N A : Type 0} (f : N → A) where
  twice : (es : List (RcStr Global × TypeOfAttribute N)) → map by_text (map (λ e. (e.0, attribute_form f e.1)) es) ≡ attribute_rows f es
  twice [] = refl
  twice (e ∷ es) = ap (λ rows. by_text (e.0, attribute_form f e.1) ∷ rows) (twice es)

  pub opened : (r : RecordType N) → record_rows f r ≡ attribute_rows f (out-RecordType N r).attributes.entries
  opened r = fold_out-RecordType N (TypeForm A) (Rows A) (TypeForm A) (TypeForm A × Bool) (variant_step f) record_step type_step attribute_step r ∙ twice (out-RecordType N r).attributes.entries

-- what is found in the rows that are left
abbrev pub row_names : Rows Conditional → List Name
row_names rows = names_in_fields (in_a_row rows)

module _ (p : Name → Bool) where
  pub rows_found : (rest later : Rows Conditional) (r : Text × (TypeForm Conditional × Bool)) (whole : Option Name) (n : Name) → whole ≡ find p (row_names rest) → rest ≡ r ∷ later → Some n ≡ find p (names_in_type r.1.0) → Some n ≡ whole
  rows_found rest later r whole n so e h = found_before p (names_in_type r.1.0) (row_names later) n h ∙ sym (so ∙ ap (λ rows. find p (row_names rows)) e)

  pub rows_go_on : (rest later : Rows Conditional) (r : Text × (TypeForm Conditional × Bool)) (whole : Option Name) → whole ≡ find p (row_names rest) → rest ≡ r ∷ later → None ≡ find p (names_in_type r.1.0) → whole ≡ find p (row_names later)
  rows_go_on rest later r whole so e h = so ∙ ap (λ rows. find p (row_names rows)) e ∙ sym (found_after p (names_in_type r.1.0) (row_names later) (find p (row_names later)) h refl)

  pub rows_end : (rest : Rows Conditional) (whole : Option Name) → whole ≡ find p (row_names rest) → rest ≡ [] → None ≡ whole
  rows_end rest whole so e = sym (so ∙ ap (λ rows. find p (row_names rows)) e)
