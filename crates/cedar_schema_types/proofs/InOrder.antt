-- Pairs of names and attributes in the order of the names.
use Rattle.std.proofs.Common.{◌≡◌, true, List, [], ◌∷◌, map, refl, sym, ap, ◌∙◌}
use Rattle.std.specs.List.Sorted.{IsStrictlySortedBy}
use Rattle.std.specs.Map.{keys_of}
use Rattle.std.specs.Rc.{rc_str_bytes}
use Rattle.std.specs.declared.alloc.Global.{Global}
use Rattle.std.specs.declared.rc.RcStr.{RcStr}
use Rattle.cedar_expr_model.specs.Lists.{rises}
use Rattle.cedar_expr_model.specs.Order.{text_cmp}
use Rattle.cedar_expr_model.specs.Records.{in_order, names_rise}
use Rattle.cedar_expr_values.specs.Fields.{by_text}
use Rattle.cedar_expr_values.proofs.Ascending.{names_ascend}
use Rattle.cedar_expr_values.proofs.Recorded.{under, in_order_under}
use Rattle.cedar_schema_types.specs.Types.{attribute_of}
use Rattle.cedar_schema_types.specs.AttributeLists.{declared_pair, declared_pairs}
use Rattle.cedar_schema_types.specs.declared.types.AttributeType.{AttributeType}

-- entries by their names' texts, and then by what is declared
pub pairs_under : (es : List (RcStr Global × AttributeType)) → map (under attribute_of) (map by_text es) ≡ declared_pairs es
pairs_under [] = refl
pairs_under (e ∷ es) = ap (λ ps. declared_pair e ∷ ps) (pairs_under es)

pub pairs_in_order : (es ps : List (RcStr Global × AttributeType)) → map by_text es ≡ in_order (map by_text ps) → declared_pairs es ≡ in_order (declared_pairs ps)
pairs_in_order es ps h = sym (pairs_under es) ∙ ap (map (under attribute_of)) h ∙ sym (in_order_under attribute_of (map by_text ps)) ∙ ap in_order (pairs_under ps)

names_kept : (es : List (RcStr Global × AttributeType)) → map (λ p. p.0) (map by_text es) ≡ map (λ p. p.0) (declared_pairs es)
names_kept [] = refl
names_kept (e ∷ es) = ap (λ ns. rc_str_bytes e.0 ∷ ns) (names_kept es)

-- the names of a map's entries rise
pub entries_rise : (es : List (RcStr Global × AttributeType)) → IsStrictlySortedBy (λ a b. text_cmp (rc_str_bytes a) (rc_str_bytes b)) (keys_of es) → names_rise (declared_pairs es) ≡ true
entries_rise es s = ap (λ ns. rises text_cmp ns) (sym (names_kept es)) ∙ names_ascend es s
