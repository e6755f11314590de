-- The entity of an action has neither attributes nor tags.
use Rattle.std.proofs.Common.{◌≡◌, true, false, not, ◌&&◌, List, [], ◌∷◌, length, None, refl, ap}
use Rattle.std.proofs.Math.Dec.{eqb-suc-zero}
use Rattle.std.specs.Prelude.{nat_eq}
use Rattle.std.specs.List.{list_all}
use Rattle.cedar_expr_model.specs.Name.{Text}
use Rattle.cedar_expr_model.specs.Made.{Made}
use Rattle.cedar_expr_model.specs.ValueParts.{Part}
use Rattle.cedar_gate_model.specs.Asked.{Parts, has_undeclared, has_wrong_value, has_wrong_tag}
use Rattle.cedar_schema_model.specs.Types.{no_attributes}
use Rattle.cedar_store_model.specs.Knowledge.{is_known}
use Rattle.cedar_gate_conforming.specs.Views.{bare_parts}

pub no_wrong_value : (ps : Parts) → has_wrong_value no_attributes ps ≡ false
no_wrong_value [] = refl
no_wrong_value (p ∷ ps) = no_wrong_value ps

pub some_attributes : (ps : List (Text × Part Made)) → not (nat_eq (length ps) 0) ≡ has_undeclared no_attributes (bare_parts ps)
some_attributes [] = refl
some_attributes (p ∷ ps) = ap not (eqb-suc-zero (length ps))

pub some_tags : (ps : List (Text × Part Made)) → not (nat_eq (length ps) 0) ≡ has_wrong_tag None (bare_parts ps)
some_tags [] = refl
some_tags (p ∷ ps) = ap not (eqb-suc-zero (length ps))

-- where there are none all are values
pub none_left : (ps : Parts) → has_undeclared no_attributes ps ≡ false → list_all (λ p. is_known p.1) ps ≡ true
none_left [] h = refl
none_left (p ∷ ps) h = absurd (cc)

pub no_tag_left : (ps : Parts) → has_wrong_tag None ps ≡ false → list_all (λ p. is_known p.1) ps ≡ true
no_tag_left [] h = refl
no_tag_left (p ∷ ps) h = absurd (cc)

pub all_values : (ps qs : Parts) → has_undeclared no_attributes ps ≡ false → has_wrong_tag None qs ≡ false → not (list_all (λ p. is_known p.1) ps && list_all (λ p. is_known p.1) qs) ≡ false
all_values ps qs h g = λ i. not (none_left ps h i && no_tag_left qs g i)
