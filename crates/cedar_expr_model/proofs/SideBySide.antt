-- Sets side by side, lists that are split, and names in namespaces.
use Rattle.std.proofs.Common.{◌≡◌, Bool, true, false, List, [], ◌∷◌, ◌++◌, map, Option, Some, None, Decides, refl, sym, ap, ◌∙◌, subst, inl, inr}
use Rattle.std.specs.Prelude.{◌↔◌, option_map}
use Rattle.std.specs.Option.{option_map_or}
use Rattle.std.proofs.lemmas.Bool.Decides.{Decides-and, Decides-like, Decides-not}
use Rattle.cedar_expr_model.specs.Name.{Text, Name}
use Rattle.cedar_expr_model.specs.Value.{V, Vs, no_values, value}
use Rattle.cedar_expr_model.specs.Canonical.{are_rising, is_subset, is_disjoint}
use Rattle.cedar_expr_model.specs.SamenessLaws.{Among}
use Rattle.cedar_expr_model.specs.Made.{Made}
use Rattle.cedar_expr_model.specs.Names.{is_unqualified, namespace_of, within, qualified}
use Rattle.cedar_expr_model.specs.ValueParts.{Part, known, left, part_tree, all_known, values_alone, with_residuals, split}
use Rattle.cedar_expr_model.proofs.Reading.{name_of_all}
use Rattle.cedar_expr_model.proofs.Rising.{member_Decides}

each_head : (v : V) (vs : Vs) (P : V → Type 0) → (P v × ((u : V) → Among u vs → P u)) → (u : V) → Among u (value v vs) → P u
each_head v vs P p u (inl e) = subst P (sym e) p.0
each_head v vs P p u (inr a) = p.1 u a

head_each : (v : V) (vs : Vs) (P : V → Type 0) → ((u : V) → Among u (value v vs) → P u) → (P v × ((u : V) → Among u vs → P u))
head_each v vs P f = (f v (inl refl), λ u a. f u (inr a))

pub subset_Decides : (vs ws : Vs) → are_rising ws ≡ true → Decides (is_subset vs ws) ((u : V) → Among u vs → Among u ws)
subset_Decides no_values ws r = (λ _ u a. absurd a, λ _. refl)
subset_Decides (value v vs) ws r = Decides-like _ (each_head v vs (λ u. Among u ws)) (head_each v vs (λ u. Among u ws)) (Decides-and _ _ (member_Decides v ws r) (subset_Decides vs ws r))

pub disjoint_Decides : (vs ws : Vs) → are_rising ws ≡ true → Decides (is_disjoint vs ws) ((u : V) → Among u vs → ¬ (Among u ws))
disjoint_Decides no_values ws r = (λ _ u a. absurd a, λ _. refl)
disjoint_Decides (value v vs) ws r = Decides-like _ (each_head v vs (λ u. ¬ (Among u ws))) (head_each v vs (λ u. ¬ (Among u ws))) (Decides-and _ _ (Decides-not _ (member_Decides v ws r)) (disjoint_Decides vs ws r))

-- lists that are split
known_case : (n : Made) (ps : List (Part Made)) (ms : List Made) (o : Option (List Made)) → ((ns : List Made) → o ≡ Some ns → ps ≡ map known ns) → option_map (λ ns. n ∷ ns) o ≡ Some ms → known n ∷ ps ≡ map known ms
known_case n ps ms None f h = cc
known_case n ps ms (Some ns) f h =
    let q : n ∷ ns ≡ ms = cc in
    ap (λ l. known n ∷ l) (f ns refl) ∙ ap (map known) q

known_from : (ps : List (Part Made)) (ms : List Made) → all_known ps ≡ Some ms → ps ≡ map known ms
known_from [] [] e = refl
known_from [] (m ∷ ms) e = cc
known_from (known n ∷ ps) ms e = known_case n ps ms (all_known ps) (λ ns f. known_from ps ns f) e
known_from (left t ∷ ps) ms e = cc

known_to : (ms : List Made) → all_known (map known ms) ≡ Some ms
known_to [] = refl
known_to (m ∷ ms) = let e = known_to ms in rw e refl

into_values : (ps : List (Part Made)) (o : Option (List Made)) (ms : List Made) → option_map_or values_alone o (with_residuals (map part_tree ps)) ≡ values_alone ms → o ≡ Some ms
into_values ps None ms e = cc
into_values ps (Some ns) ms e = cc

pub split_gives : (ps : List (Part Made)) (ms : List Made) → (split ps ≡ values_alone ms) ↔ (ps ≡ map known ms)
split_gives ps ms = (
  λ e. known_from ps ms (into_values ps (all_known ps) ms e),
  λ e. ap split e ∙ ap (λ o. option_map_or values_alone o (with_residuals (map part_tree (map known ms)))) (known_to ms),
)

-- names in namespaces
pub namespace_kept : (space : Name) (base : Text) → namespace_of (within space base) ≡ Some space
namespace_kept space base = name_of_all [] space.path space.base

pub qualified_stays : (space : Option Name) (n : Name) → is_unqualified n ≡ false → qualified space n ≡ n
qualified_stays None n e = refl
qualified_stays (Some space) n e = rw e refl

path_is_more : (path : List Text) (base next : Text) → is_unqualified (record { path = path ++ base ∷ []; base = next }) ≡ false
path_is_more [] base next = refl
path_is_more (p ∷ path) base next = refl

within_is_qualified : (space : Name) (base : Text) → is_unqualified (within space base) ≡ false
within_is_qualified space base = path_is_more space.path space.base base

pub qualified_once : (space : Name) (other : Option Name) (n : Name) → qualified other (qualified (Some space) n) ≡ qualified (Some space) n
qualified_once space other n = qualified_stays other (qualified (Some space) n) (go (is_unqualified n) refl)
  where
    go : (t : Bool) → is_unqualified n ≡ t → is_unqualified (qualified (Some space) n) ≡ false
    go true e = rw e (within_is_qualified space n.base)
    go false e = rw e e
