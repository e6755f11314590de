-- Names and entity types are equal exactly where the model's names are.
use Rattle.std.proofs.Common.{◌≡◌, Bool, List, [], ◌∷◌, map, refl, sym, ap, subst, Decides}
use Rattle.std.proofs.lemmas.Bool.Decides.{Decides-and, Decides-like}
use Rattle.std.specs.Cmp.Lexicographic.{pointwise}
use Rattle.std.specs.Str.{bytes_eq}
use Rattle.cedar_expr_model.proofs.Equality.{name_eq-Decides}
use Rattle.cedar_expr_names.specs.Views.{name_bytes, plain_name_of, type_name_of}
use Rattle.cedar_expr_names.specs.declared.name.Name.{Name}
use Rattle.cedar_expr_names.specs.declared.entity.EntityType.{EntityType}
use Rattle.cedar_expr_names.proofs.Equality.{names_eq_is}
use Rattle.cedar_schema_entries.specs.Views.{applied_seen}
use Rattle.cedar_schema_entries.specs.contracts.applies_to.AppliesToPartialEq.TheImpl as applied
use Rattle.cedar_schema_entries.specs.declared.applies_to.AppliesTo.{AppliesTo}

-- what `==` computes of names and types
abbrev names_eq : Name → Name → Bool
names_eq m n = bytes_eq (name_bytes m.internal) (name_bytes n.internal)

abbrev types_eq : EntityType → EntityType → Bool
types_eq s t = names_eq s.0 t.0

pub names_decide : (m n : Name) → Decides (names_eq m n) (plain_name_of m ≡ plain_name_of n)
names_decide m n = subst (λ b. Decides b (plain_name_of m ≡ plain_name_of n)) (sym (names_eq_is m.internal n.internal)) (name_eq-Decides (plain_name_of m) (plain_name_of n))

pub types_decide : (s t : EntityType) → Decides (types_eq s t) (type_name_of s ≡ type_name_of t)
types_decide s t = names_decide s.0 t.0

lists_decide : (ss ts : List EntityType) → Decides (pointwise types_eq ss ts) (map type_name_of ss ≡ map type_name_of ts)
lists_decide [] [] = (λ _. refl, λ _. refl)
lists_decide [] (t ∷ ts) = (λ h. cc, λ h. cc)
lists_decide (s ∷ ss) [] = (λ h. cc, λ h. cc)
lists_decide (s ∷ ss) (t ∷ ts) = Decides-like _ (λ p. let e = p.0 in let g = p.1 in cc) (λ e. (cc, cc)) (Decides-and _ _ (types_decide s t) (lists_decide ss ts))

-- what actions apply to
pub applied_decide : (a b : AppliesTo) → Decides ((applied.ghosts).eq a b) (applied_seen a ≡ applied_seen b)
applied_decide a b = Decides-like _ (λ p i. record { principals = p.0 i; resources = p.1 i }) (λ e. (ap (λ x. x.principals) e, ap (λ x. x.resources) e)) (Decides-and _ _ (lists_decide a.principals.keys b.principals.keys) (lists_decide a.resources.keys b.resources.keys))
