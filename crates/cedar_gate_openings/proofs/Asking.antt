-- Going over unknowns with a question.
use Rattle.std.proofs.Common.{◌≡◌, ◌||◌, Bool, true, false, List, [], ◌∷◌, sym, ap, ◌∙◌}
use Rattle.std.specs.List.{list_any}

module _ {X : Type 0} (p : X → Bool) (whole : Bool) (left rest : List X) (x : X) (b : Bool) where
  -- it holds of the next
  pub any_stop : whole ≡ list_any p left → left ≡ x ∷ rest → b ≡ p x → b ≡ true → true ≡ whole
  any_stop h is told e = sym (h ∙ ap (list_any p) is ∙ ap (λ t. t || list_any p rest) (sym told ∙ e))

  -- it doesn't hold of the next
  pub any_next : whole ≡ list_any p left → left ≡ x ∷ rest → b ≡ p x → b ≡ false → whole ≡ list_any p rest
  any_next h is told e = h ∙ ap (list_any p) is ∙ ap (λ t. t || list_any p rest) (sym told ∙ e)

-- nothing is left
pub any_end : {X : Type 0} (p : X → Bool) (whole : Bool) (left : List X) → whole ≡ list_any p left → left ≡ [] → false ≡ whole
any_end p whole left h is = sym (h ∙ ap (list_any p) is)
