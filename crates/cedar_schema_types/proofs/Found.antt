-- What is declared of an attribute, by its name among the entries.
use Rattle.std.proofs.Common.{◌≡◌, Bool, true, false, cond, List, [], ◌∷◌, Option, Some, None, option_map, refl, sym, ap, ◌∙◌}
use Rattle.std.proofs.lemmas.Map.Text.{is_eq-slice_cmp}
use Rattle.std.specs.Borrow.{Bor}
use Rattle.std.specs.BTreeMap.{is_at}
use Rattle.std.specs.Map.{lookup}
use Rattle.std.specs.Ordering.{is_eq}
use Rattle.std.specs.Option.{option_copied}
use Rattle.std.specs.Rc.{rc_str_bytes}
use Rattle.std.specs.Str.{bytes_eq}
use Rattle.std.specs.declared.alloc.Global.{Global}
use Rattle.std.specs.declared.rc.RcStr.{RcStr}
use Rattle.cedar_expr_model.specs.Name.{Text}
use Rattle.cedar_expr_model.specs.Order.{text_cmp}
use Rattle.cedar_schema_model.specs.Types.{Declared, attribute_named}
use Rattle.cedar_schema_types.specs.Types.{attributes_of, attribute_of, entries_of}
use Rattle.cedar_schema_types.specs.AttributeLists.{attributes_from, declared_pairs}
use Rattle.cedar_schema_types.specs.declared.types.Attributes.{Attributes}
use Rattle.cedar_schema_types.specs.declared.types.AttributeType.{AttributeType}
use Rattle.cedar_schema_types.proofs.Entries.{attributes_are}

chosen : (s t : Bool) → s ≡ t → (d : AttributeType) (o : Option AttributeType) (p : Option Declared) → option_map attribute_of o ≡ p → option_map attribute_of (cond s (Some d) o) ≡ cond t (Some (attribute_of d)) p
chosen s true e d o p h = ap (λ b. option_map attribute_of (cond b (Some d) o)) e
chosen s false e d o p h = ap (λ b. option_map attribute_of (cond b (Some d) o)) e ∙ h

found : (a : Text) (es : List (RcStr Global × AttributeType)) → option_map attribute_of (lookup (is_at (λ k. text_cmp a (rc_str_bytes k))) es) ≡ attribute_named a (attributes_from (declared_pairs es))
found a [] = refl
found a (e ∷ es) =
    chosen (is_eq (text_cmp a (rc_str_bytes e.0))) (bytes_eq a (rc_str_bytes e.0)) (is_eq-slice_cmp a (rc_str_bytes e.0)) e.1
    (lookup (is_at (λ k. text_cmp a (rc_str_bytes k))) es) (attribute_named a (attributes_from (declared_pairs es))) (found a es)

copied : (r : Option (Bor AttributeType)) → option_map (λ d. attribute_of d.now) r ≡ option_map attribute_of (option_copied r)
copied None = refl
copied (Some d) = refl

-- what a look-up finds
pub attribute_found : (a : Text) (as_ : Attributes) (es : List (RcStr Global × AttributeType)) (r : Option (Bor AttributeType)) → es ≡ entries_of as_ → option_copied r ≡ lookup (is_at (λ k. text_cmp a (rc_str_bytes k))) es → option_map (λ d. attribute_of d.now) r ≡ attribute_named a (attributes_of as_)
attribute_found a as_ es r e h =
    copied r ∙ ap (option_map attribute_of) h ∙ found a es ∙ ap (λ es. attribute_named a (attributes_from (declared_pairs es))) e ∙ ap (attribute_named a) (sym (attributes_are as_))
