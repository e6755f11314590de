-- Whether each name of attributes is one of others, one after the other.
use Rattle.std.proofs.Common.{◌≡◌, ◌&&◌, Bool, true, false, List, [], ◌∷◌, Option, Some, None, option_map, is_some, refl, sym, ap, ◌∙◌}
use Rattle.std.specs.Borrow.{Bor}
use Rattle.std.specs.Rc.{rc_str_bytes}
use Rattle.std.specs.declared.alloc.Global.{Global}
use Rattle.std.specs.declared.rc.RcStr.{RcStr}
use Rattle.cedar_schema_model.specs.Types.{Attributes, attribute_named}
use Rattle.cedar_schema_model.specs.Subtype.{are_named}
use Rattle.cedar_schema_types.specs.Types.{attribute_of}
use Rattle.cedar_schema_types.specs.AttributeLists.{attributes_from, declared_pairs}
use Rattle.cedar_schema_types.specs.declared.types.AttributeType.{AttributeType}

module _ (others : Attributes) where
  abbrev pub all_named : List (RcStr Global × AttributeType) → Bool
  all_named es = are_named (attributes_from (declared_pairs es)) others

  named_more : (rest later : List (RcStr Global × AttributeType)) (k : RcStr Global) (d : AttributeType) (o : Option (Bor AttributeType)) (whole : Bool) → all_named rest ≡ whole → rest ≡ (k, d) ∷ later
      → option_map (λ x. attribute_of x.now) o ≡ attribute_named (rc_str_bytes k) others → (is_some o && all_named later) ≡ whole
  named_more rest later k d o whole h is found = ap (λ b. b && all_named later) (there o ∙ ap is_some found) ∙ ap all_named (sym is) ∙ h
    where
      there : (o : Option (Bor AttributeType)) → is_some o ≡ is_some (option_map (λ x. attribute_of x.now) o)
      there None = refl
      there (Some x) = refl

  pub names_go_on : (rest later : List (RcStr Global × AttributeType)) (k : RcStr Global) (d : AttributeType) (o : Option (Bor AttributeType)) (whole : Bool) → all_named rest ≡ whole → rest ≡ (k, d) ∷ later
      → option_map (λ x. attribute_of x.now) o ≡ attribute_named (rc_str_bytes k) others → is_some o ≡ true → all_named later ≡ whole
  names_go_on rest later k d o whole h is found so = ap (λ b. b && all_named later) (sym so) ∙ named_more rest later k d o whole h is found

  pub names_stop : (rest later : List (RcStr Global × AttributeType)) (k : RcStr Global) (d : AttributeType) (o : Option (Bor AttributeType)) (whole : Bool) → all_named rest ≡ whole → rest ≡ (k, d) ∷ later
      → option_map (λ x. attribute_of x.now) o ≡ attribute_named (rc_str_bytes k) others → is_some o ≡ false → false ≡ whole
  names_stop rest later k d o whole h is found not_so = ap (λ b. b && all_named later) (sym not_so) ∙ named_more rest later k d o whole h is found

  pub names_end : (rest : List (RcStr Global × AttributeType)) (whole : Bool) → all_named rest ≡ whole → rest ≡ [] → true ≡ whole
  names_end rest whole h is = ap all_named (sym is) ∙ h
