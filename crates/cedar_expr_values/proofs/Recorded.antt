-- The fields of a code record are those of the model's, and the record that is made of pairs.
use Rattle.std.proofs.Common.{◌≡◌, List, [], ◌∷◌, map, refl, sym, ap, ◌∙◌}
use Rattle.std.specs.declared.alloc.Global.{Global}
use Rattle.std.specs.declared.rc.RcStr.{RcStr}
use Rattle.cedar_expr_model.specs.Records.{in_order}
use Rattle.cedar_expr_values.specs.Extension.{Extension}
use Rattle.cedar_expr_values.specs.Fields.{by_text}
pub use Rattle.cedar_expr_values.specs.Members.{under, in_order_under}
use Rattle.cedar_expr_values.specs.Values.{made, made_pair}
use Rattle.cedar_expr_values.specs.declared.value.Value.{Value}

module _ {X : Type 0} (seen : X → Extension) where
  by_text_made : (es : List (RcStr Global × Value X)) → map (under (made seen)) (map by_text es) ≡ map (made_pair seen) es
  by_text_made [] = refl
  by_text_made (e ∷ es) = ap (λ ps. made_pair seen e ∷ ps) (by_text_made es)

  -- the fields of the entries that a list of pairs makes
  pub recorded : (es ps : List (RcStr Global × Value X)) → map by_text es ≡ in_order (map by_text ps) → map (made_pair seen) es ≡ in_order (map (made_pair seen) ps)
  recorded es ps e =
      sym (by_text_made es) ∙ ap (map (under (made seen))) e ∙ sym (in_order_under (made seen) (map by_text ps)) ∙ ap in_order (by_text_made ps)
