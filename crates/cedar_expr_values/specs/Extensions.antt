-- What the code's extension values are.
-- Rule: extension functions (docs/RULES.md).
use Rattle.std.specs.Prelude.{◌≡◌, map}
use Rattle.std.specs.Ordering.{nat_cmp, ordering_then}
use Rattle.std.specs.Cmp.Lexicographic.{slice_cmp}
use Rattle.std.proofs.Common.{ap}
use Rattle.cedar_expr_model.specs.Order.{text_cmp}
use Rattle.cedar_expr_names.specs.Views.{name_bytes, plain_name_of}
use Rattle.cedar_expr_names.proofs.Equality.{names_order_is}
use Rattle.cedar_expr_leaves.specs.Literals.{literal_of}
use Rattle.cedar_expr_values.specs.declared.extension.ExtValue.{ExtValue}
use Rattle.cedar_expr_values.specs.declared.extension.RepresentableExtensionValue.{RepresentableExtensionValue}
use Rattle.cedar_expr_values.specs.Extension.{Extension, extension_cmp}

-- an extension value with its call
abbrev pub extension_of : ExtValue → Extension
extension_of x = record { kind = plain_name_of x.type_name; key = x.key.items; function = plain_name_of x.function; arguments = map literal_of x.literals.items }

-- the value without the call
abbrev pub value_held : {X : Type 0} → RepresentableExtensionValue X → X
value_held r = r.value.value

-- an extension value with a call of its own
abbrev pub with_call : {X : Type 0} → (X → Extension) → RepresentableExtensionValue X → Extension
with_call seen r = let x = seen (value_held r) in record { kind = x.kind; key = x.key; function = plain_name_of r.called; arguments = map literal_of r.args.items }

-- by the text of the type's name and then by the key: the order of extension values
pub by_type_and_key : (x y : ExtValue) → ordering_then (slice_cmp nat_cmp (name_bytes x.type_name.internal) (name_bytes y.type_name.internal)) (text_cmp x.key.items y.key.items) ≡ extension_cmp (extension_of x) (extension_of y)
by_type_and_key x y = ap (λ r. ordering_then r (text_cmp x.key.items y.key.items)) (names_order_is x.type_name.internal y.type_name.internal)
