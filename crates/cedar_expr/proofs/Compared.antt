-- Names that may stand for one of several are equal exactly where what counts of them is the same; unknowns are ordered as the model's.
use Rattle.std.proofs.Common.{◌≡◌, Bool, List, [], ◌∷◌, map, Option, Some, None, option_map, refl, sym, ap, subst, Decides}
use Rattle.std.proofs.lemmas.Bool.Decides.{Decides-and, Decides-like}
use Rattle.std.specs.Cmp.Lexicographic.{pointwise}
use Rattle.std.specs.Option.{option_cmp}
use Rattle.std.specs.Ordering.{ordering_then}
use Rattle.std.specs.Rc.{rc_str_bytes}
use Rattle.std.specs.Str.{bytes_eq}
use Rattle.cedar_expr_model.specs.Order.{text_cmp, core_cmp}
use Rattle.cedar_expr_model.proofs.Equality.{name_eq-Decides}
use Rattle.cedar_expr_names.specs.Views.{name_of, name_bytes}
use Rattle.cedar_expr_names.specs.declared.internal_name.InternalName.{InternalName}
use Rattle.cedar_expr_names.proofs.Equality.{names_eq_is}
use Rattle.cedar_expr_leaves.specs.Views.{possible_names, referred, written_name}
use Rattle.cedar_expr_leaves.specs.declared.conditional_name.ConditionalName.{ConditionalName}
use Rattle.cedar_expr_leaves.specs.declared.conditional_name.ReferenceType.{ReferenceType}
use Rattle.cedar_expr_leaves.specs.declared.conditional_name.ReferenceType.TheVariants.{Common, Entity, CommonOrEntity}
use Rattle.cedar_expr_leaves.specs.contracts.conditional_name.ConditionalNamePartialEq.TheImpl as conditional
use Rattle.cedar_expr_leaves.specs.contracts.conditional_name.ReferenceTypePartialEq.TheImpl as reference
use Rattle.cedar_expr_values.specs.Types.{core_of}
use Rattle.cedar_expr_values.specs.contracts.types.TypeOrd.TheImpl as core_order
use Rattle.cedar_expr_values.specs.declared.types.Type.{«Type» as CoreKind}
use Rattle.cedar_expr_values.proofs.CoreTypes.{types_cmp_is}
use Rattle.cedar_expr_trees.specs.Unknowns.{unknown_of}
use Rattle.cedar_expr_trees.specs.contracts.expr.UnknownOrd.TheImpl as unknown_order
use Rattle.cedar_expr_trees.specs.declared.expr.Unknown.{Unknown}

-- names, and lists of them
abbrev names_eq : InternalName → InternalName → Bool
names_eq m n = bytes_eq (name_bytes m) (name_bytes n)

names_decide : (m n : InternalName) → Decides (names_eq m n) (name_of m ≡ name_of n)
names_decide m n = subst (λ b. Decides b (name_of m ≡ name_of n)) (sym (names_eq_is m n)) (name_eq-Decides (name_of m) (name_of n))

lists_decide : (ms ns : List InternalName) → Decides (pointwise names_eq ms ns) (map name_of ms ≡ map name_of ns)
lists_decide [] [] = (λ _. refl, λ _. refl)
lists_decide [] (n ∷ ns) = (λ h. cc, λ h. cc)
lists_decide (m ∷ ms) [] = (λ h. cc, λ h. cc)
lists_decide (m ∷ ms) (n ∷ ns) = Decides-like _ (λ p. let e = p.0 in let g = p.1 in cc) (λ e. (cc, cc)) (Decides-and _ _ (names_decide m n) (lists_decide ms ns))

references_decide : (a b : ReferenceType) → Decides ((reference.ghosts).eq a b) (a ≡ b)
references_decide Common Common = (λ _. refl, λ _. refl)
references_decide Entity Entity = (λ _. refl, λ _. refl)
references_decide CommonOrEntity CommonOrEntity = (λ _. refl, λ _. refl)
references_decide a b = (λ h. cc, λ h. cc)

pub conditional_names_decide : (a b : ConditionalName) → Decides ((conditional.ghosts).eq a b) ((possible_names a ≡ possible_names b) × ((referred a ≡ referred b) × (written_name a ≡ written_name b)))
conditional_names_decide a b = Decides-and _ _ (lists_decide a.possibilities.items b.possibilities.items) (Decides-and _ _ (references_decide a.reference_type b.reference_type) (names_decide a.raw.0 b.raw.0))

-- annotations, and unknowns
annotations_cmp_is : (a b : Option CoreKind) → option_cmp (core_order.ghosts).cmp a b ≡ option_cmp core_cmp (option_map core_of a) (option_map core_of b)
annotations_cmp_is None None = refl
annotations_cmp_is None (Some b) = refl
annotations_cmp_is (Some a) None = refl
annotations_cmp_is (Some a) (Some b) = types_cmp_is a b

pub unknowns_cmp_is : (u v : Unknown) → (unknown_order.ghosts).cmp u v ≡ ordering_then (text_cmp (unknown_of u).name (unknown_of v).name) (option_cmp core_cmp (unknown_of u).annotation (unknown_of v).annotation)
unknowns_cmp_is u v = ap (ordering_then (text_cmp (rc_str_bytes u.name) (rc_str_bytes v.name))) (annotations_cmp_is u.type_annotation v.type_annotation)
