-- The tests of core types and annotations, and the type that a written value shows.
use Rattle.std.proofs.Common.{◌≡◌, Option, Some, None, refl, Decides}
use Rattle.std.proofs.lemmas.Bool.Decides.{Decides-like}
use Rattle.std.specs.Ordering.{is_eq}
use Rattle.std.specs.declared.cmp.Ordering.{Ordering}
use Rattle.std.specs.declared.cmp.Ordering.TheVariants.{Less, Equal, Greater}
use Rattle.cedar_expr_model.specs.Value.{V}
use Rattle.cedar_expr_model.specs.Tree.{CoreType}
use Rattle.cedar_expr_model.specs.Order.{core_cmp, core_eq}
use Rattle.cedar_expr_model.specs.Substitution.{IsOfType, core_type_of, fits_annotation}
use Rattle.cedar_expr_model.specs.Made.{Made, made_prim, made_set, made_record, made_extension, bare, written}
use Rattle.cedar_expr_model.specs.Table.{Table}
use Rattle.cedar_expr_model.specs.Evident.{evident_type}
use Rattle.cedar_expr_model.specs.TreeLaws.{HasResult}
use Rattle.cedar_expr_model.proofs.ShapeParts.{core_linear}

-- a test that an order decides
test_decides : (r : Ordering) → Decides (is_eq r) (r ≡ Equal)
test_decides Less = (λ h. cc, λ h. cc)
test_decides Equal = (λ _. refl, λ _. refl)
test_decides Greater = (λ h. cc, λ h. cc)

pub core_eq-Decides : (a b : CoreType) → Decides (core_eq a b) (a ≡ b)
core_eq-Decides a b = let h = core_linear.tells a b in Decides-like _ h.0 h.1 (test_decides (core_cmp a b))

pub fits-Decides : (a : Option CoreType) (v : V) → Decides (fits_annotation a v) (IsOfType a v)
fits-Decides None v = (λ _. tt, λ _. refl)
fits-Decides (Some a) v = core_eq-Decides a (core_type_of v)

pub shown_type : (x : Table) (m : Made) → HasResult x m → evident_type x (written m) ≡ Some (core_type_of (bare m))
shown_type x (made_prim p) h = refl
shown_type x (made_set ms) h = refl
shown_type x (made_record fs) h = refl
shown_type x (made_extension n k f ps) h = h
