-- A copy of a call has the same arguments, and an extension value with such a call is the same.
use Rattle.std.proofs.Common.{◌≡◌, List, [], ◌∷◌, map, refl, ap, ◌∙◌}
use Rattle.std.specs.List.{AllZip}
use Rattle.cedar_expr_names.specs.Views.{plain_name_of}
use Rattle.cedar_expr_leaves.specs.Literals.{literal_of}
use Rattle.cedar_expr_leaves.specs.declared.literal.Literal.{Literal}
use Rattle.cedar_expr_values.specs.Extension.{Extension}
use Rattle.cedar_expr_values.specs.Extensions.{with_call}
use Rattle.cedar_expr_values.specs.declared.extension.RepresentableExtensionValue.{RepresentableExtensionValue}

copies_are : (ps qs : List Literal) → AllZip (λ p q. literal_of q ≡ literal_of p) ps qs → map literal_of qs ≡ map literal_of ps
copies_are [] [] h = refl
copies_are [] (q ∷ qs) h = absurd h
copies_are (p ∷ ps) [] h = absurd h
copies_are (p ∷ ps) (q ∷ qs) h = ap (λ l. l ∷ map literal_of qs) h.0 ∙ ap (λ ls. literal_of p ∷ ls) (copies_are ps qs h.1)

pub same_call : {X : Type 0} (seen : X → Extension) (x y : RepresentableExtensionValue X) → y.value.value ≡ x.value.value → plain_name_of y.called ≡ plain_name_of x.called
    → AllZip (λ p q. literal_of q ≡ literal_of p) x.args.items y.args.items → with_call seen y ≡ with_call seen x
same_call seen x y a b d =
    ap (λ z. record { kind = (seen z).kind; key = (seen z).key; function = plain_name_of y.called; arguments = map literal_of y.args.items }) a
    ∙ ap (λ n. record { kind = (seen x.value.value).kind; key = (seen x.value.value).key; function = n; arguments = map literal_of y.args.items }) b
    ∙ ap (λ ls. record { kind = (seen x.value.value).kind; key = (seen x.value.value).key; function = plain_name_of x.called; arguments = ls }) (copies_are x.args.items y.args.items d)
