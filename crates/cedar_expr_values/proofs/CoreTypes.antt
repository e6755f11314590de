-- Equality and order of core types are the model's.
use Rattle.std.proofs.Common.{◌≡◌, refl, ap, ◌∙◌}
use Rattle.std.specs.Ordering.{is_eq}
use Rattle.std.proofs.lemmas.Cmp.{tied_itself}
use Rattle.cedar_expr_model.specs.Order.{core_cmp, core_eq}
use Rattle.cedar_expr_model.proofs.ShapeParts.{core_linear}
use Rattle.cedar_expr_values.specs.Types.{core_of}
use Rattle.cedar_expr_values.specs.contracts.types.TypeOrd.TheImpl as order
use Rattle.cedar_expr_values.specs.contracts.types.TypePartialEq.TheImpl as equality
use Rattle.cedar_expr_values.specs.contracts.types.TypeOrd.TheImpl.Laws as laws
use Rattle.cedar_expr_values.specs.contracts.types.TypeHash.TheImpl as hashing
use Rattle.cedar_expr_values.specs.contracts.types.TypeHash.TheImpl.Laws as hash_laws
use Rattle.cedar_expr_values.specs.declared.types.Type.{«Type» as CoreKind}
use Rattle.cedar_expr_values.specs.declared.types.Type.TheVariants.{Bool, Long, String, Set, Record, Entity, Extension}
use Rattle.cedar_expr_names.proofs.Equality.{names_order_is}

-- what `cmp` computes of two core types
pub types_cmp_is : (a b : CoreKind) → (order.ghosts).cmp a b ≡ core_cmp (core_of a) (core_of b)
types_cmp_is Bool Bool = refl
types_cmp_is Long Long = refl
types_cmp_is String String = refl
types_cmp_is Set Set = refl
types_cmp_is Record Record = refl
types_cmp_is (Entity m) (Entity n) = names_order_is m.0.internal n.0.internal
types_cmp_is (Extension m) (Extension n) = names_order_is m.internal n.internal
types_cmp_is a b = refl

-- what `==` computes of two core types
pub types_eq_is : (a b : CoreKind) → (equality.ghosts).eq a b ≡ core_eq (core_of a) (core_of b)
types_eq_is a b = laws.matches_eq-law a b ∙ ap is_eq (types_cmp_is a b)

-- core types that are the same in the model feed a hasher alike
pub types_hashed : (a b : CoreKind) → core_of a ≡ core_of b → (hashing.ghosts).hash_input a ≡ (hashing.ghosts).hash_input b
types_hashed a b e =
    hash_laws.respects_eq-law a b (types_eq_is a b ∙ ap (λ t. is_eq (core_cmp t (core_of b))) e ∙ ap is_eq (tied_itself core_linear.total (core_of b)))
