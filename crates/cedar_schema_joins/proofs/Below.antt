-- Whether attributes have each of others, one after the other.
use Rattle.std.proofs.Common.{◌≡◌, ◌&&◌, Bool, true, false, List, [], ◌∷◌, Option, option_map, sym, ap, ◌∙◌}
use Rattle.std.specs.Borrow.{Bor}
use Rattle.std.specs.Rc.{rc_str_bytes}
use Rattle.std.specs.declared.alloc.Global.{Global}
use Rattle.std.specs.declared.rc.RcStr.{RcStr}
use Rattle.cedar_schema_model.specs.Types.{Attributes, attribute_named, Mode}
use Rattle.cedar_schema_model.specs.Subtype.{is_subtype, have_below, is_declared_below}
use Rattle.cedar_schema_types.specs.Types.{type_of, attribute_of}
use Rattle.cedar_schema_types.specs.AttributeLists.{attributes_from, declared_pairs}
use Rattle.cedar_schema_types.specs.declared.types.AttributeType.{AttributeType}

-- of the entries that are left, the first passes or not
module _ (m : Mode) (own : Attributes) where
  abbrev pub all_below : List (RcStr Global × AttributeType) → Bool
  all_below es = have_below m own (attributes_from (declared_pairs es))

  one_more : (rest later : List (RcStr Global × AttributeType)) (k : RcStr Global) (d : AttributeType) (o : Option (Bor AttributeType)) (test whole : Bool) → all_below rest ≡ whole → rest ≡ (k, d) ∷ later
      → option_map (λ x. attribute_of x.now) o ≡ attribute_named (rc_str_bytes k) own
      → test ≡ is_declared_below m (λ a. is_subtype m a (type_of d.attr_type)) d.is_required (option_map (λ x. attribute_of x.now) o) → (test && all_below later) ≡ whole
  one_more rest later k d o test whole h is found tested =
      ap (λ b. b && all_below later) (tested ∙ ap (is_declared_below m (λ a. is_subtype m a (type_of d.attr_type)) d.is_required) found) ∙ ap all_below (sym is) ∙ h

  pub goes_on : (rest later : List (RcStr Global × AttributeType)) (k : RcStr Global) (d : AttributeType) (o : Option (Bor AttributeType)) (test whole : Bool) → all_below rest ≡ whole → rest ≡ (k, d) ∷ later
      → option_map (λ x. attribute_of x.now) o ≡ attribute_named (rc_str_bytes k) own
      → test ≡ is_declared_below m (λ a. is_subtype m a (type_of d.attr_type)) d.is_required (option_map (λ x. attribute_of x.now) o) → test ≡ true → all_below later ≡ whole
  goes_on rest later k d o test whole h is found tested so = ap (λ b. b && all_below later) (sym so) ∙ one_more rest later k d o test whole h is found tested

  pub stops : (rest later : List (RcStr Global × AttributeType)) (k : RcStr Global) (d : AttributeType) (o : Option (Bor AttributeType)) (test whole : Bool) → all_below rest ≡ whole → rest ≡ (k, d) ∷ later
      → option_map (λ x. attribute_of x.now) o ≡ attribute_named (rc_str_bytes k) own
      → test ≡ is_declared_below m (λ a. is_subtype m a (type_of d.attr_type)) d.is_required (option_map (λ x. attribute_of x.now) o) → test ≡ false → false ≡ whole
  stops rest later k d o test whole h is found tested not_so = ap (λ b. b && all_below later) (sym not_so) ∙ one_more rest later k d o test whole h is found tested

  pub ends : (rest : List (RcStr Global × AttributeType)) (whole : Bool) → all_below rest ≡ whole → rest ≡ [] → true ≡ whole
  ends rest whole h is = ap all_below (sym is) ∙ h
