-- Literals are compared as the model's.
use Rattle.std.proofs.Common.{◌≡◌, refl, ap, ◌∙◌}
use Rattle.std.specs.Ordering.{is_eq}
use Rattle.std.proofs.lemmas.Cmp.{tied_itself}
use Rattle.cedar_expr_model.specs.Order.{literal_cmp}
use Rattle.cedar_expr_model.proofs.ValueOrder.{literal_linear}
use Rattle.cedar_expr_names.proofs.Equality.{uids_order_is}
use Rattle.cedar_expr_leaves.specs.Literals.{literal_of}
use Rattle.cedar_expr_leaves.specs.contracts.literal.LiteralOrd.TheImpl as order
use Rattle.cedar_expr_leaves.specs.contracts.literal.LiteralPartialEq.TheImpl as equality
use Rattle.cedar_expr_leaves.specs.contracts.literal.LiteralHash.TheImpl as hashing
use Rattle.cedar_expr_leaves.specs.contracts.literal.LiteralHash.TheImpl.Laws as hash_laws
use Rattle.cedar_expr_leaves.specs.contracts.literal.LiteralOrd.TheImpl.Laws as laws
use Rattle.cedar_expr_leaves.specs.declared.literal.Literal.{Literal}
use Rattle.cedar_expr_leaves.specs.declared.literal.Literal.TheVariants.{Bool, Long, String, EntityUID}

-- what `cmp` computes of two literals
pub literals_cmp_is : (p q : Literal) → (order.ghosts).cmp p q ≡ literal_cmp (literal_of p) (literal_of q)
literals_cmp_is (Bool a) (Bool b) = refl
literals_cmp_is (Long a) (Long b) = refl
literals_cmp_is (String a) (String b) = refl
literals_cmp_is (EntityUID u) (EntityUID v) = uids_order_is u.value v.value
literals_cmp_is p q = refl

-- what `==` computes of two literals
pub literals_eq_is : (p q : Literal) → (equality.ghosts).eq p q ≡ is_eq (literal_cmp (literal_of p) (literal_of q))
literals_eq_is p q = laws.matches_eq-law p q ∙ ap is_eq (literals_cmp_is p q)

-- literals that are the same in the model feed a hasher alike
pub literals_hashed : (p q : Literal) → literal_of p ≡ literal_of q → (hashing.ghosts).hash_input p ≡ (hashing.ghosts).hash_input q
literals_hashed p q e =
    hash_laws.respects_eq-law p q (literals_eq_is p q ∙ ap (λ l. is_eq (literal_cmp l (literal_of q))) e ∙ ap is_eq (tied_itself literal_linear.total (literal_of q)))
