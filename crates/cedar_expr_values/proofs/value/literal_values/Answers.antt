-- One more value stands behind the others, as one more literal does.
use Rattle.std.proofs.Common.{◌≡◌, List, [], ◌∷◌, ◌++◌, map, sym, ap, ◌∙◌}
use Rattle.std.proofs.lemmas.List.{map-append}
use Rattle.cedar_expr_values.proofs.value.literal_values.Goals as goal

one_more : {A B C : Type 0} (f : A → C) (g : B → C) (xs more : List A) (ys : List B) (x : A) (y : B) → map f xs ≡ map g ys → more ≡ xs ++ x ∷ [] → f x ≡ g y → map f more ≡ map g (ys ++ y ∷ [])
one_more f g xs more ys x y e m is =
    ap (map f) m ∙ map-append f xs (x ∷ []) ∙ ap (λ zs. zs ++ f x ∷ []) e ∙ ap (λ z. map g ys ++ z ∷ []) is ∙ sym (map-append g ys (y ∷ []))

pub loop-literal-preserved : goal.loop-literal-preserved
loop-literal-preserved g c = one_more _ _ c.loop-literal.values.items c.push.new.self.items c.loop-literal.yielded c.new.result c.in-Some.literal c.loop-literal.invariant c.in_ok-push.ensures.items c.new.ensures.value
