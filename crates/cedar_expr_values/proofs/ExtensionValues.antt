-- Extension values of a table are compared by their types and then by their keys.
use Rattle.std.proofs.Common.{◌≡◌, ap, ◌∙◌}
use Rattle.std.specs.Ordering.{is_eq, ordering_then}
use Rattle.std.proofs.lemmas.Cmp.{tied_itself}
use Rattle.cedar_expr_model.specs.Order.{text_cmp, name_order}
use Rattle.cedar_expr_model.proofs.Linear.{name_total, text_total}
use Rattle.cedar_expr_values.specs.Extension.{extension_cmp}
use Rattle.cedar_expr_values.specs.Extensions.{extension_of, by_type_and_key}
use Rattle.cedar_expr_values.specs.contracts.extension.ExtValueOrd.TheImpl as order
use Rattle.cedar_expr_values.specs.contracts.extension.ExtValueOrd.TheImpl.Laws as laws
use Rattle.cedar_expr_values.specs.contracts.extension.ExtValuePartialEq.TheImpl as equality
use Rattle.cedar_expr_values.specs.contracts.extension.ExtValueHash.TheImpl as hashing
use Rattle.cedar_expr_values.specs.contracts.extension.ExtValueHash.TheImpl.Laws as hash_laws
use Rattle.cedar_expr_values.specs.declared.extension.ExtValue.{ExtValue}

-- what `cmp` computes
pub ext_values_cmp_is : (x y : ExtValue) → (order.ghosts).cmp x y ≡ extension_cmp (extension_of x) (extension_of y)
ext_values_cmp_is = by_type_and_key

-- what `==` computes
pub ext_values_eq_is : (x y : ExtValue) → (equality.ghosts).eq x y ≡ is_eq (extension_cmp (extension_of x) (extension_of y))
ext_values_eq_is x y = laws.matches_eq-law x y ∙ ap is_eq (ext_values_cmp_is x y)

-- those of one type and key feed a hasher alike
pub ext_values_hashed : (x y : ExtValue) → (extension_of x).kind ≡ (extension_of y).kind → (extension_of x).key ≡ (extension_of y).key → (hashing.ghosts).hash_input x ≡ (hashing.ghosts).hash_input y
ext_values_hashed x y d e =
    hash_laws.respects_eq-law x y
    (ext_values_eq_is x y
    ∙ ap (λ n. is_eq (ordering_then (name_order n (extension_of y).kind) (text_cmp (extension_of x).key (extension_of y).key))) d
    ∙ ap (λ k. is_eq (ordering_then (name_order (extension_of y).kind (extension_of y).kind) (text_cmp k (extension_of y).key))) e
    ∙ ap (λ r. is_eq (ordering_then r (text_cmp (extension_of y).key (extension_of y).key))) (tied_itself name_total (extension_of y).kind)
    ∙ ap is_eq (tied_itself text_total (extension_of y).key))
