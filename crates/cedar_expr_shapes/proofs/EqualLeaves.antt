-- The leaves of expressions are equal where the model's order of them finds no difference.
use Rattle.std.proofs.Common.{◌≡◌, ◌&&◌, Bool, List, [], ◌∷◌, Option, Some, None, refl, sym, ap, ◌∙◌, map, rules}
use Rattle.std.specs.Prelude.{option_map}
use Rattle.std.specs.Option.{option_eq, option_cmp}
use Rattle.std.specs.Ordering.{is_eq, ordering_then}
use Rattle.std.specs.Rc.{rc_str_bytes}
use Rattle.std.specs.Str.{bytes_eq}
use Rattle.std.specs.Cmp.Lexicographic.{slice_cmp, pointwise}
use Rattle.std.specs.declared.alloc.Global.{Global}
use Rattle.std.specs.declared.cmp.Ordering.{Ordering}
use Rattle.std.specs.declared.cmp.Ordering.TheVariants.{Less, Equal, Greater}
use Rattle.std.specs.declared.rc.RcStr.{RcStr}
use Rattle.std.proofs.lemmas.Map.Text.{is_eq-slice_cmp}
use Rattle.cedar_expr_names.specs.Views.{plain_name_of, type_name_of}
use Rattle.cedar_expr_names.specs.contracts.entity.EntityTypeOrd.TheImpl.Laws as type_laws
use Rattle.cedar_expr_names.specs.contracts.entity.EntityTypePartialEq.TheImpl as type_equality
use Rattle.cedar_expr_names.specs.contracts.name.NameOrd.TheImpl.Laws as name_laws
use Rattle.cedar_expr_names.specs.contracts.name.NamePartialEq.TheImpl as name_equality
use Rattle.cedar_expr_names.specs.declared.entity.EntityType.{EntityType}
use Rattle.cedar_expr_names.specs.declared.name.Name.{Name}
use Rattle.cedar_expr_names.proofs.Equality.{names_order_is}
use Rattle.cedar_expr_leaves.specs.Operators.{unary_op_of, binary_op_of}
use Rattle.cedar_expr_leaves.specs.Patterns.{element_of, pattern_of}
use Rattle.cedar_expr_leaves.specs.Slots.{slot_of}
use Rattle.cedar_expr_leaves.specs.Variables.{var_of}
use Rattle.cedar_expr_leaves.specs.contracts.ops.BinaryOpPartialEq.TheImpl as binary_equality
use Rattle.cedar_expr_leaves.specs.contracts.ops.UnaryOpPartialEq.TheImpl as unary_equality
use Rattle.cedar_expr_leaves.specs.contracts.pattern.PatternOrd.TheImpl.Laws as pattern_laws
use Rattle.cedar_expr_leaves.specs.contracts.pattern.PatternPartialEq.TheImpl as pattern_equality
use Rattle.cedar_expr_leaves.specs.contracts.slot.SlotIdPartialEq.TheImpl as slot_equality
use Rattle.cedar_expr_leaves.specs.contracts.var.VarPartialEq.TheImpl as var_equality
use Rattle.cedar_expr_leaves.specs.declared.ops.BinaryOp.{BinaryOp}
use Rattle.cedar_expr_leaves.specs.declared.ops.UnaryOp.{UnaryOp}
use Rattle.cedar_expr_leaves.specs.declared.pattern.Pattern.{Pattern}
use Rattle.cedar_expr_leaves.specs.declared.pattern.PatternElem.TheVariants.{Char, Wildcard}
use Rattle.cedar_expr_leaves.specs.declared.slot.SlotId.{SlotId}
use Rattle.cedar_expr_leaves.specs.declared.var.Var.{Var}
use Rattle.cedar_expr_values.specs.Types.{core_of}
use Rattle.cedar_expr_values.specs.contracts.types.TypePartialEq.TheImpl as core_equality
use Rattle.cedar_expr_values.specs.declared.types.Type.{«Type» as CoreKind}
use Rattle.cedar_expr_values.proofs.CoreTypes.{types_eq_is}
use Rattle.cedar_expr_model.specs.Order.{text_cmp, name_order, core_cmp}
use Rattle.cedar_expr_model.specs.Shape.{var_cmp, slot_cmp, element_cmp, pattern_cmp, unary_cmp, binary_cmp}
use Rattle.cedar_expr_trees.specs.Unknowns.{unknown_of}
use Rattle.cedar_expr_trees.specs.contracts.expr.UnknownPartialEq.TheImpl as unknown_equality
use Rattle.cedar_expr_trees.specs.declared.expr.Unknown.{Unknown}
use Rattle.cedar_expr_shapes.proofs.Comparing.{slices_by}

-- two steps
pub two_equal : (a b : Bool) (r s : Ordering) → a ≡ is_eq r → b ≡ is_eq s → (a && b) ≡ is_eq (ordering_then r s)
two_equal a b Less s e f = ap (λ c. c && b) e
two_equal a b Equal s e f = ap (λ c. c && b) e ∙ f
two_equal a b Greater s e f = ap (λ c. c && b) e

pub texts_equal : (a b : RcStr Global) → bytes_eq (rc_str_bytes a) (rc_str_bytes b) ≡ is_eq (text_cmp (rc_str_bytes a) (rc_str_bytes b))
texts_equal a b = sym (is_eq-slice_cmp (rc_str_bytes a) (rc_str_bytes b))

pub rows_equal : (as_ bs : List (RcStr Global)) → pointwise (λ a b. bytes_eq (rc_str_bytes a) (rc_str_bytes b)) as_ bs ≡ is_eq (slice_cmp text_cmp (map rc_str_bytes as_) (map rc_str_bytes bs))
rows_equal [] [] = refl
rows_equal [] (b ∷ bs) = refl
rows_equal (a ∷ as_) [] = refl
rows_equal (a ∷ as_) (b ∷ bs) =
    two_equal _ _ (text_cmp (rc_str_bytes a) (rc_str_bytes b)) (slice_cmp text_cmp (map rc_str_bytes as_) (map rc_str_bytes bs)) (texts_equal a b) (rows_equal as_ bs)

pub vars_equal : (x y : Var) → (var_equality.ghosts).eq x y ≡ is_eq (var_cmp (var_of x) (var_of y))
vars_equal x y = search rules

pub slots_equal : (s t : SlotId) → (slot_equality.ghosts).eq s t ≡ is_eq (slot_cmp (slot_of s) (slot_of t))
slots_equal s t = search rules

pub unary_equal : (o p : UnaryOp) → (unary_equality.ghosts).eq o p ≡ is_eq (unary_cmp (unary_op_of o) (unary_op_of p))
unary_equal o p = search rules

pub binary_equal : (o p : BinaryOp) → (binary_equality.ghosts).eq o p ≡ is_eq (binary_cmp (binary_op_of o) (binary_op_of p))
binary_equal o p = search rules

pub names_equal : (m n : Name) → (name_equality.ghosts).eq m n ≡ is_eq (name_order (plain_name_of m) (plain_name_of n))
names_equal m n = name_laws.matches_eq-law m n ∙ ap is_eq (names_order_is m.internal n.internal)

pub types_equal : (s t : EntityType) → (type_equality.ghosts).eq s t ≡ is_eq (name_order (type_name_of s) (type_name_of t))
types_equal s t = type_laws.matches_eq-law s t ∙ ap is_eq (names_order_is s.0.internal t.0.internal)

pub patterns_equal : (p q : Pattern) → (pattern_equality.ghosts).eq p q ≡ is_eq (pattern_cmp (pattern_of p) (pattern_of q))
patterns_equal p q =
    pattern_laws.matches_eq-law p q
    ∙ ap is_eq
    (slices_by _ element_cmp element_of
    (λ a b. elim a [ Char x ↦ elim b [ Char y ↦ search rules | Wildcard ↦ search rules ] | Wildcard ↦ elim b [ Char y ↦ search rules | Wildcard ↦ search rules ] ])
    p.elems.value.items q.elems.value.items)

annotations_equal : (a b : Option CoreKind) → option_eq (core_equality.ghosts).eq a b ≡ is_eq (option_cmp core_cmp (option_map core_of a) (option_map core_of b))
annotations_equal None None = refl
annotations_equal None (Some b) = refl
annotations_equal (Some a) None = refl
annotations_equal (Some a) (Some b) = types_eq_is a b

pub unknowns_equal : (u v : Unknown) → (unknown_equality.ghosts).eq u v ≡ is_eq (ordering_then (text_cmp (unknown_of u).name (unknown_of v).name) (option_cmp core_cmp (unknown_of u).annotation (unknown_of v).annotation))
unknowns_equal u v =
    two_equal _ _ (text_cmp (rc_str_bytes u.name) (rc_str_bytes v.name)) (option_cmp core_cmp (unknown_of u).annotation (unknown_of v).annotation)
    (texts_equal u.name v.name) (annotations_equal u.type_annotation v.type_annotation)
