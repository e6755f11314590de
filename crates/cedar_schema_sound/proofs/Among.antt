-- Whether a name is in a set, by what it is in the model.
use Rattle.std.proofs.Common.{◌≡◌, ◌||◌, List, [], ◌∷◌, map, refl, ◌∙◌}
use Rattle.std.proofs.lemmas.Map.Text.{is_eq-slice_cmp}
use Rattle.std.specs.BTreeMap.{is_at}
use Rattle.std.specs.Cmp.Lexicographic.{slice_cmp}
use Rattle.std.specs.List.{list_any}
use Rattle.std.specs.Ordering.{nat_cmp}
use Rattle.std.specs.declared.cmp.Ordering.{Ordering}
use Rattle.cedar_expr_model.specs.Name.{name_eq}
use Rattle.cedar_expr_names.specs.Views.{name_bytes, plain_name_of}
use Rattle.cedar_expr_names.specs.declared.name.Name.{Name}
use Rattle.cedar_expr_names.proofs.Equality.{names_eq_is}

-- what `cmp` computes of two names
abbrev names_by : Name → Name → Ordering
names_by m n = slice_cmp nat_cmp (name_bytes m.internal) (name_bytes n.internal)

same_name : (m n : Name) → is_at (names_by m) n ≡ name_eq (plain_name_of m) (plain_name_of n)
same_name m n = is_eq-slice_cmp (name_bytes m.internal) (name_bytes n.internal) ∙ names_eq_is m.internal n.internal

pub name_among : (m : Name) (ns : List Name) → list_any (is_at (names_by m)) ns ≡ list_any (name_eq (plain_name_of m)) (map plain_name_of ns)
name_among m [] = refl
name_among m (n ∷ ns) = λ i. same_name m n i || name_among m ns i
