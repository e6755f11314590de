-- Values that are the same at the same place.
use Rattle.std.proofs.Common.{◌≡◌, Bool, true, false, Option, Some, None, refl, sym, ap, ap₂, ◌∙◌}
use Rattle.std.specs.Bool.{Decides}
use Rattle.std.specs.Option.{option_eq}
use Rattle.std.proofs.lemmas.Bool.Decides.{Decides-and, Decides-like, Decides-eqb}
use Rattle.cedar_expr_names.specs.contracts.loc.LocPartialEq.TheImpl as equality
use Rattle.cedar_expr_names.specs.declared.loc.Loc.{Loc}
use Rattle.cedar_expr_model.specs.Value.{V}
use Rattle.cedar_expr_model.specs.Order.{value_eq}
use Rattle.cedar_expr_model.proofs.ValueOrder.{values_decide}

same_bounds : (l m : Loc) → l.start ≡ m.start → l.end ≡ m.end → l ≡ m
same_bounds l m a b = ap₂ (λ s e. record { start = s; end = e }) a b

place_decides : (l m : Loc) → Decides ((equality.ghosts).eq l m) (l ≡ m)
place_decides l m =
    Decides-like _ (λ p. same_bounds l m p.0 p.1) (λ e. (ap (λ p. p.start) e, ap (λ p. p.end) e)) (Decides-and _ _ (Decides-eqb l.start m.start) (Decides-eqb l.end m.end))

places_decide : (o p : Option Loc) → Decides (option_eq (equality.ghosts).eq o p) (o ≡ p)
places_decide None None = (λ h. refl, λ h. refl)
places_decide None (Some m) = (λ h. cc, λ h. cc)
places_decide (Some l) None = (λ h. cc, λ h. cc)
places_decide (Some l) (Some m) = Decides-like _ (λ e. ap Some e) (λ e. cc) (place_decides l m)

-- what is answered where the values are the same, and where they aren't
pub at_same_place : (v w : V) (o p : Option Loc) (r : Bool) → value_eq v w ≡ true → r ≡ option_eq (equality.ghosts).eq o p → Decides r ((v ≡ w) × (o ≡ p))
at_same_place v w o p r h e = (λ t. ((values_decide v w).0 h, (places_decide o p).0 (sym e ∙ t)), λ q. e ∙ (places_decide o p).1 q.1)

pub not_the_same : (v w : V) (o p : Option Loc) (r : Bool) → value_eq v w ≡ false → r ≡ false → Decides r ((v ≡ w) × (o ≡ p))
not_the_same v w o p r h e = (λ t. cc, λ q. e ∙ sym h ∙ (values_decide v w).1 q.0)
