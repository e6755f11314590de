-- The values of a type, by their kinds, members and fields.
use Rattle.std.proofs.Common.{◌≡◌, ◌&&◌, ◌||◌, not, Bool, true, false, cond, List, [], ◌∷◌, map, length, Option, Some, option_map, is_some, refl, sym, ap, ◌∙◌, arith}
use Rattle.std.proofs.lemmas.Map.Text.{is_eq-slice_cmp}
use Rattle.std.specs.Borrow.{Bor}
use Rattle.std.specs.BTreeMap.{is_at}
use Rattle.std.specs.Map.{lookup}
use Rattle.std.specs.Ordering.{is_eq}
use Rattle.std.specs.Rc.{rc_str_bytes}
use Rattle.std.specs.Str.{bytes_eq}
use Rattle.std.specs.declared.alloc.Global.{Global}
use Rattle.std.specs.declared.rc.RcStr.{RcStr}
use Rattle.cedar_expr_model.specs.Name.{Text}
use Rattle.cedar_expr_model.specs.Order.{text_cmp}
use Rattle.cedar_expr_model.specs.Records.{fields}
use Rattle.cedar_expr_model.specs.Made as model
use Rattle.cedar_expr_model.specs.Value.{field, field_of}
use Rattle.cedar_expr_values.specs.Extension.{Extension}
use Rattle.cedar_expr_values.specs.Values.{made, bare, bare_pair, made_list, made_fields, made_pair}
use Rattle.cedar_expr_values.specs.declared.value.Value.{Value}
use Rattle.cedar_schema_model.specs.Types.{Ty, Openness, Attributes, attribute_named}
use Rattle.cedar_schema_model.specs.HasType.{has_type, have_type, field_fits, fields_fit, has_required}
use Rattle.cedar_schema_types.specs.Types.{attribute_of}
use Rattle.cedar_schema_types.specs.AttributeLists.{attributes_from, declared_pairs}
use Rattle.cedar_schema_types.specs.declared.types.AttributeType.{AttributeType}

module _ {X : Type 0} (seen : X → Extension) where
  -- the fields of a record
  pub bare_fields_are : (es : List (RcStr Global × Value X)) → model.bare_fields (made_fields (map (made_pair seen) es)) ≡ fields (map (bare_pair seen) es)
  bare_fields_are [] = refl
  bare_fields_are (e ∷ es) = ap (field (rc_str_bytes e.0) (bare seen e.1)) (bare_fields_are es)

  -- members that are left, and the next of them
  abbrev pub all_have : Ty → List (Value X) → Bool
  all_have t vs = have_type (model.bares (made_list (map (made seen) vs))) t

  pub members_go_on : (t : Ty) (rest later : List (Value X)) (v : Value X) (test whole : Bool) → all_have t rest ≡ whole → rest ≡ v ∷ later → test ≡ has_type (bare seen v) t → test ≡ true → all_have t later ≡ whole
  members_go_on t rest later v test whole h is tested so = ap (λ b. b && all_have t later) (sym so ∙ tested) ∙ ap (all_have t) (sym is) ∙ h

  pub members_stop : (t : Ty) (rest later : List (Value X)) (v : Value X) (test whole : Bool) → all_have t rest ≡ whole → rest ≡ v ∷ later → test ≡ has_type (bare seen v) t → test ≡ false → false ≡ whole
  members_stop t rest later v test whole h is tested not_so = ap (λ b. b && all_have t later) (sym not_so ∙ tested) ∙ ap (all_have t) (sym is) ∙ h

  pub members_end : (t : Ty) (rest : List (Value X)) (whole : Bool) → all_have t rest ≡ whole → length rest ≡ 0 → true ≡ whole
  members_end t [] whole h is = h
  members_end t (v ∷ rest) whole h is = absurd (omega (arith, is))

  -- fields that are left, and the next of them
  module _ (as_ : Attributes) (o : Openness) where
    abbrev pub all_fit : List (RcStr Global × Value X) → Bool
    all_fit es = fields_fit as_ o (fields (map (bare_pair seen) es))

    next_fits : (rest later : List (RcStr Global × Value X)) (k : RcStr Global) (v : Value X) (d : Option (Bor AttributeType)) (test whole : Bool) → all_fit rest ≡ whole → rest ≡ (k, v) ∷ later
        → option_map (λ x. attribute_of x.now) d ≡ attribute_named (rc_str_bytes k) as_
        → test ≡ field_fits o (has_type (bare seen v)) (option_map (λ x. attribute_of x.now) d) → (test && all_fit later) ≡ whole
    next_fits rest later k v d test whole h is found tested =
        ap (λ b. b && all_fit later) (tested ∙ ap (field_fits o (has_type (bare seen v))) found) ∙ ap all_fit (sym is) ∙ h

    pub fields_go_on : (rest later : List (RcStr Global × Value X)) (k : RcStr Global) (v : Value X) (d : Option (Bor AttributeType)) (test whole : Bool) → all_fit rest ≡ whole → rest ≡ (k, v) ∷ later
        → option_map (λ x. attribute_of x.now) d ≡ attribute_named (rc_str_bytes k) as_
        → test ≡ field_fits o (has_type (bare seen v)) (option_map (λ x. attribute_of x.now) d) → test ≡ true → all_fit later ≡ whole
    fields_go_on rest later k v d test whole h is found tested so = ap (λ b. b && all_fit later) (sym so) ∙ next_fits rest later k v d test whole h is found tested

    pub fields_stop : (rest later : List (RcStr Global × Value X)) (k : RcStr Global) (v : Value X) (d : Option (Bor AttributeType)) (test whole : Bool) → all_fit rest ≡ whole → rest ≡ (k, v) ∷ later
        → option_map (λ x. attribute_of x.now) d ≡ attribute_named (rc_str_bytes k) as_
        → test ≡ field_fits o (has_type (bare seen v)) (option_map (λ x. attribute_of x.now) d) → test ≡ false → false ≡ whole
    fields_stop rest later k v d test whole h is found tested not_so = ap (λ b. b && all_fit later) (sym not_so) ∙ next_fits rest later k v d test whole h is found tested

    pub fields_end : (rest : List (RcStr Global × Value X)) (whole : Bool) → all_fit rest ≡ whole → rest ≡ [] → true ≡ whole
    fields_end rest whole h is = ap all_fit (sym is) ∙ h

  -- a field by its name
  pub field_there : (a : Text) (es : List (RcStr Global × Value X)) → is_some (lookup (is_at (λ k. text_cmp a (rc_str_bytes k))) es) ≡ is_some (field_of a (fields (map (bare_pair seen) es)))
  field_there a [] = refl
  field_there a (e ∷ es) = go (is_eq (text_cmp a (rc_str_bytes e.0))) (bytes_eq a (rc_str_bytes e.0)) (is_eq-slice_cmp a (rc_str_bytes e.0)) (field_there a es)
    where
      go : (s t : Bool) → s ≡ t → is_some (lookup (is_at (λ k. text_cmp a (rc_str_bytes k))) es) ≡ is_some (field_of a (fields (map (bare_pair seen) es)))
          → is_some (cond s (Some e.1) (lookup (is_at (λ k. text_cmp a (rc_str_bytes k))) es)) ≡ is_some (cond t (Some (bare seen e.1)) (field_of a (fields (map (bare_pair seen) es))))
      go s true same h = ap (λ b. is_some (cond b (Some e.1) (lookup (is_at (λ k. text_cmp a (rc_str_bytes k))) es))) same
      go s false same h = ap (λ b. is_some (cond b (Some e.1) (lookup (is_at (λ k. text_cmp a (rc_str_bytes k))) es))) same ∙ h

  -- required attributes that are left, and the next of them
  module _ (es : List (RcStr Global × Value X)) where
    abbrev pub all_there : List (RcStr Global × AttributeType) → Bool
    all_there ds = has_required (attributes_from (declared_pairs ds)) (fields (map (bare_pair seen) es))

    -- the next is there where it is required, or lacks
    one_there : (r x : Bool) → (not r || x) ≡ not (r && not x)
    one_there true true = refl
    one_there true false = refl
    one_there false x = refl

    next_there : (rest later : List (RcStr Global × AttributeType)) (k : RcStr Global) (d : AttributeType) (lack whole : Bool) → all_there rest ≡ whole → rest ≡ (k, d) ∷ later
        → lack ≡ (d.is_required && not (is_some (field_of (rc_str_bytes k) (fields (map (bare_pair seen) es))))) → (not lack && all_there later) ≡ whole
    next_there rest later k d lack whole h is tested =
        ap (λ b. not b && all_there later) tested
        ∙ ap (λ b. b && all_there later) (sym (one_there d.is_required (is_some (field_of (rc_str_bytes k) (fields (map (bare_pair seen) es))))))
        ∙ ap all_there (sym is) ∙ h

    pub none_lacks : (rest later : List (RcStr Global × AttributeType)) (k : RcStr Global) (d : AttributeType) (lack whole : Bool) → all_there rest ≡ whole → rest ≡ (k, d) ∷ later
        → lack ≡ (d.is_required && not (is_some (field_of (rc_str_bytes k) (fields (map (bare_pair seen) es))))) → lack ≡ false → all_there later ≡ whole
    none_lacks rest later k d lack whole h is tested not_so = ap (λ b. not b && all_there later) (sym not_so) ∙ next_there rest later k d lack whole h is tested

    pub one_lacks : (rest later : List (RcStr Global × AttributeType)) (k : RcStr Global) (d : AttributeType) (lack whole : Bool) → all_there rest ≡ whole → rest ≡ (k, d) ∷ later
        → lack ≡ (d.is_required && not (is_some (field_of (rc_str_bytes k) (fields (map (bare_pair seen) es))))) → lack ≡ true → false ≡ whole
    one_lacks rest later k d lack whole h is tested so = ap (λ b. not b && all_there later) (sym so) ∙ next_there rest later k d lack whole h is tested

    pub required_end : (rest : List (RcStr Global × AttributeType)) (whole : Bool) → all_there rest ≡ whole → rest ≡ [] → true ≡ whole
    required_end rest whole h is = ap all_there (sym is) ∙ h
