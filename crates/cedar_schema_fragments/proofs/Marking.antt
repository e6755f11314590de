-- What is declared, one after the other.
use Rattle.std.proofs.Common.{ℕ, ◌+◌, ◌<◌, ◌≤◌, ◌≡◌, List, [], ◌∷◌, length, get_or, drop, sym, ap, ◌∙◌}
use Rattle.std.proofs.lemmas.List.{at_drop_more, drop_all}
use Rattle.cedar_schema_decl.specs.Defined.{Defined}

-- one more of what is left, and the end
module _ {E : Type 0} (all : List E → Defined → Defined) (one : E → Defined → Defined) (h : (x : E) (xs : List E) (s : Defined) → all (x ∷ xs) s ≡ all xs (one x s)) where
  pub marks_one : (es : List E) (i : ℕ) (d : E) (s t whole : Defined) → i < length es → t ≡ one (get_or es i d) s → all (drop i es) s ≡ whole → all (drop (i + 1) es) t ≡ whole
  marks_one es i d s t whole l m so = ap (all (drop (i + 1) es)) m ∙ sym (h (get_or es i d) (drop (i + 1) es) s) ∙ sym (at_drop_more (λ ys. all ys s) es i d l) ∙ so

pub marks_all : {E : Type 0} (all : List E → Defined → Defined) → ((s : Defined) → all [] s ≡ s) → (es : List E) (i : ℕ) (s whole : Defined) → length es ≤ i → all (drop i es) s ≡ whole → s ≡ whole
marks_all all h es i s whole l so = sym (h s) ∙ ap (λ ys. all ys s) (sym (drop_all i es l)) ∙ so
