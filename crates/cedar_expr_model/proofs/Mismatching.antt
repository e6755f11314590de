-- There is no mismatch exactly where all bindings fit.
use Rattle.std.proofs.Common.{◌≡◌, Bool, true, false, Option, Some, None, cond, refl}
use Rattle.std.specs.Prelude.{◌↔◌}
use Rattle.cedar_expr_model.specs.Name.{Text}
use Rattle.cedar_expr_model.specs.Tree.{CoreType, Tree}
use Rattle.cedar_expr_model.specs.Made.{Made, bare}
use Rattle.cedar_expr_model.specs.Order.{core_eq}
use Rattle.cedar_expr_model.specs.Substitution.{Bindings, core_type_of, Mismatch, mismatch_at, mismatch}
use Rattle.cedar_expr_model.specs.Parts.{Unknown, unknowns}
use Rattle.cedar_expr_model.specs.TreeLaws.{FitsBound, FitsAll}
use Rattle.cedar_expr_model.proofs.CoreTypes.{core_eq-Decides}
use Rattle.cedar_expr_model.proofs.Gathering.{found_none}

-- the mismatch where the test said this
abbrev said : Text → CoreType → Made → Bool → Option Mismatch
said n a m t = cond t None (Some (record { name = n; annotation = a; actual = core_type_of (bare m) }))

fits_case : (n : Text) (a : CoreType) (m : Made) (t : Bool) → core_eq a (core_type_of (bare m)) ≡ t → (said n a m t ≡ None) ↔ (a ≡ core_type_of (bare m))
fits_case n a m true e = (λ _. (core_eq-Decides a (core_type_of (bare m))).0 e, λ _. refl)
fits_case n a m false e = (λ h. cc, λ h. let q = (core_eq-Decides a (core_type_of (bare m))).1 h in cc)

fits_one : (n : Text) (a : Option CoreType) (m : Option Made) → (mismatch_at n a m ≡ None) ↔ FitsBound a m
fits_one n None m = (λ _. tt, λ _. refl)
fits_one n (Some a) None = (λ _. tt, λ _. refl)
fits_one n (Some a) (Some m) = fits_case n a m (core_eq a (core_type_of (bare m))) refl

pub all_fit : (env : Bindings) (t : Tree) → (mismatch env t ≡ None) ↔ FitsAll env t
all_fit env t =
    let h = found_none (λ (u : Unknown). mismatch_at u.name u.annotation (env u.name)) (unknowns t) in (
      λ e u c. (fits_one u.name u.annotation (env u.name)).0 (h.0 e u c),
      λ f. h.1 (λ u c. (fits_one u.name u.annotation (env u.name)).1 (f u c)),
    )
