-- What is gathered from a list, one item after the other.
use Rattle.std.proofs.Common.{◌≡◌, List, [], ◌∷◌, ◌++◌, map, sym, ap, ◌∙◌, append_assoc, append-nil}
use Rattle.std.specs.List.{flat_map}

module _ {X Y : Type 0} (f : X → List Y) where
  pub gathered_more : (found new whole : List Y) (left later : List X) (x : X) → (found ++ flat_map f left) ≡ whole → left ≡ x ∷ later → new ≡ (found ++ f x) → (new ++ flat_map f later) ≡ whole
  gathered_more found new whole left later x h is e = ap (λ ys. ys ++ flat_map f later) e ∙ append_assoc found (f x) (flat_map f later) ∙ ap (λ xs. found ++ flat_map f xs) (sym is) ∙ h

  pub gathered_all : (found whole : List Y) (left : List X) → (found ++ flat_map f left) ≡ whole → left ≡ [] → found ≡ whole
  gathered_all found whole left h is = sym (append-nil found) ∙ ap (λ xs. found ++ flat_map f xs) (sym is) ∙ h

module _ {X Y : Type 0} (f : X → Y) where
  pub listed_more : (found new whole : List Y) (left later : List X) (x : X) → (found ++ map f left) ≡ whole → left ≡ x ∷ later → new ≡ (found ++ f x ∷ []) → (new ++ map f later) ≡ whole
  listed_more found new whole left later x h is e = ap (λ ys. ys ++ map f later) e ∙ append_assoc found (f x ∷ []) (map f later) ∙ ap (λ xs. found ++ map f xs) (sym is) ∙ h

  pub listed_all : (found whole : List Y) (left : List X) → (found ++ map f left) ≡ whole → left ≡ [] → found ≡ whole
  listed_all found whole left h is = sym (append-nil found) ∙ ap (λ xs. found ++ map f xs) (sym is) ∙ h
