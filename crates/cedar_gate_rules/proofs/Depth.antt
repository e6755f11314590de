-- How deep expressions nest, part by part.
use Rattle.std.proofs.Common.{◌≡◌, ℕ, suc, ◌-◌, true, false, List, [], ◌∷◌, ◌&&◌, map, ap, sym, ◌∙◌, arith, max}
use Rattle.std.specs.Prelude.{nat_le}
use Rattle.std.specs.List.{list_all}
use Rattle.std.proofs.lemmas.Bool.Decides.{leb_tells}
use Rattle.cedar_expr_model.specs.Name.{Text}
use Rattle.cedar_expr_model.specs.Builder.{trees, tree_fields}
use Rattle.cedar_expr_model.specs.Tree.{Tree, lit, var, slot, unknown, choice, both, either, unary, binary, call, get_attr, has_attr, has_path, like, is_type, set_literal, record_literal, nesting, nestings, field_nestings}

-- within nothing nests nothing
pub zero_within : (n : ℕ) → true ≡ nat_le 0 n
zero_within n = grind (arith, leb_tells)

pub within_both : (a b n : ℕ) → nat_le (max a b) n ≡ (nat_le a n && nat_le b n)
within_both a b n = grind (arith, leb_tells)

pub within_one_more : (a n : ℕ) → (n ≡ 0 → ⊥) → nat_le (suc a) n ≡ nat_le a (n - 1)
within_one_more a n h = grind (arith, leb_tells)

pub none_within_zero : (a n : ℕ) → n ≡ 0 → false ≡ nat_le (suc a) n
none_within_zero a n h = grind (arith, leb_tells)

pub never_within : (t : Tree) (n : ℕ) → n ≡ 0 → false ≡ nat_le (nesting t) n
never_within (choice t a b) n h = none_within_zero _ n h
never_within (both a b) n h = none_within_zero _ n h
never_within (either a b) n h = none_within_zero _ n h
never_within (unary o a) n h = none_within_zero _ n h
never_within (binary o a b) n h = none_within_zero _ n h
never_within (call f ts) n h = none_within_zero _ n h
never_within (get_attr a m) n h = none_within_zero _ n h
never_within (has_attr a m) n h = none_within_zero _ n h
never_within (has_path a m ms) n h = none_within_zero _ n h
never_within (like a p) n h = none_within_zero _ n h
never_within (is_type a m) n h = none_within_zero _ n h
never_within (set_literal ts) n h = none_within_zero _ n h
never_within (record_literal fs) n h = none_within_zero _ n h
never_within (lit p) n h = none_within_zero 0 n h
never_within (var x) n h = none_within_zero 0 n h
never_within (slot s) n h = none_within_zero 0 n h
never_within (unknown m t) n h = none_within_zero 0 n h

-- those of a list, and of fields
pub nested_among : {E : Type 0} (t : E → Tree) (n : ℕ) (es : List E) → nat_le (nestings (trees (map t es))) n ≡ list_all (λ e. nat_le (nesting (t e)) n) es
nested_among t n [] = sym (zero_within n)
nested_among t n (e ∷ es) = within_both (nesting (t e)) (nestings (trees (map t es))) n ∙ ap (λ b. nat_le (nesting (t e)) n && b) (nested_among t n es)

pub nested_fields : (n : ℕ) (ps : List (Text × Tree)) → nat_le (field_nestings (tree_fields ps)) n ≡ list_all (λ p. nat_le (nesting p.1) n) ps
nested_fields n [] = sym (zero_within n)
nested_fields n (p ∷ ps) = within_both (nesting p.1) (field_nestings (tree_fields ps)) n ∙ ap (λ b. nat_le (nesting p.1) n && b) (nested_fields n ps)
