-- Lists of values and of expressions, split.
use Rattle.std.proofs.Common.{◌≡◌, ◌↔◌, Bool, true, false, ◌&&◌, cond, List, [], ◌∷◌, ◌++◌, map, Option, Some, None, refl, sym, ap, ◌∙◌}
use mathlib.Core.List.{append-nil}
use Rattle.std.proofs.lemmas.List.{map-append}
use Rattle.std.specs.Prelude.{is_some, option_map, option_and_then}
use Rattle.std.specs.Option.{option_map_or}
use Rattle.std.specs.List.{list_all, filter_map, cons_option}
use Rattle.cedar_expr_model.specs.Tree.{Tree}
use Rattle.cedar_expr_model.specs.Value.{record_of, field}
use Rattle.cedar_expr_model.specs.Canonical.{is_canonical, set_made}
use Rattle.cedar_expr_model.specs.Made as model
use Rattle.cedar_expr_model.specs.Made.{Made, made_prim, made_set, made_record, made_extension, Mades, no_mades, MadeFields, no_made_fields, made_field, bare, written, writtens, written_fields}
use Rattle.cedar_expr_model.specs.TreeLaws.{is_plain, are_plain, have_plain}
use Rattle.cedar_expr_model.specs.ValueParts.{value_of_tree, values_of_trees, fields_of_trees, Part, known, left, known_value, part_tree, all_known, values_alone, with_residuals, split}
use Rattle.cedar_expr_model.proofs.Valued.{written_is_value}
use Rattle.cedar_expr_values.specs.Extension.{Extension}
use Rattle.cedar_expr_values.specs.Values.{made}
use Rattle.cedar_expr_values.specs.declared.value.Value.{Value}
use Rattle.cedar_expr_partial.specs.Parts.{part_of}
use Rattle.cedar_expr_partial.specs.declared.partial_value.PartialValue.{PartialValue}
use Rattle.cedar_expr_partial.specs.ConversionLaws.{split_trees}

-- where all are values they are those that are found
all_values : {A : Type 0} (ps : List (Part A)) → list_all (λ p. is_some (known_value p)) ps ≡ true → all_known ps ≡ Some (filter_map known_value ps)
all_values [] h = refl
all_values (known m ∷ ps) h = ap (option_map (λ ms. m ∷ ms)) (all_values ps h)
all_values (left t ∷ ps) h = absurd (cc)

-- where one isn't, not all are
not_all_values : {A : Type 0} (ps : List (Part A)) → list_all (λ p. is_some (known_value p)) ps ≡ false → all_known ps ≡ None
not_all_values [] h = absurd (cc)
not_all_values (known m ∷ ps) h = ap (option_map (λ ms. m ∷ ms)) (not_all_values ps h)
not_all_values (left t ∷ ps) h = refl

-- values that are found among items, and one item more
found_behind : {A B : Type 0} (f : A → Option B) (xs : List A) (x : A) → filter_map f (xs ++ x ∷ []) ≡ filter_map f xs ++ cons_option (f x) []
found_behind f [] x = refl
found_behind {B} f (y ∷ xs) x = ap (cons_option (f y)) (found_behind f xs x) ∙ go (f y)
  where
    go : (o : Option B) → cons_option o (filter_map f xs ++ cons_option (f x) []) ≡ cons_option o (filter_map f xs) ++ cons_option (f x) []
    go None = refl
    go (Some z) = refl

module _ {X : Type 0} (seen : X → Extension) (done : List (PartialValue X)) (p : PartialValue X) where
  behind : filter_map known_value (map (part_of seen) (done ++ p ∷ [])) ≡ filter_map known_value (map (part_of seen) done) ++ cons_option (known_value (part_of seen p)) []
  behind = ap (filter_map known_value) (map-append (part_of seen) done (p ∷ [])) ∙ found_behind known_value (map (part_of seen) done) (part_of seen p)

  pub found_more : (vs more : List (Value X)) (v : Value X) → map (made seen) vs ≡ filter_map known_value (map (part_of seen) done) → option_map (made seen) (Some v) ≡ known_value (part_of seen p) → more ≡ vs ++ v ∷ [] → map (made seen) more ≡ filter_map known_value (map (part_of seen) (done ++ p ∷ []))
  found_more vs more v h e m =
      ap (map (made seen)) m
      ∙ map-append (made seen) vs (v ∷ [])
      ∙ ap (λ ms. ms ++ made seen v ∷ []) h
      ∙ ap (λ o. filter_map known_value (map (part_of seen) done) ++ cons_option o []) e
      ∙ sym behind

  pub found_none : (vs : List (Value X)) (o : Option (Value X)) → map (made seen) vs ≡ filter_map known_value (map (part_of seen) done) → option_map (made seen) o ≡ known_value (part_of seen p) → o ≡ None → map (made seen) vs ≡ filter_map known_value (map (part_of seen) (done ++ p ∷ []))
  found_none vs o h e n =
      h
      ∙ sym (append-nil (filter_map known_value (map (part_of seen) done)))
      ∙ ap (λ q. filter_map known_value (map (part_of seen) done) ++ cons_option q []) (ap (option_map (made seen)) (sym n) ∙ e)
      ∙ sym behind

-- the list that is split, either way
module _ {X : Type 0} (seen : X → Extension) where
  all_of_parts : (ps : List (PartialValue X)) → list_all (λ p. is_some (known_value p)) (map (part_of seen) ps) ≡ list_all (λ p. is_some (known_value (part_of seen p))) ps
  all_of_parts [] = refl
  all_of_parts (p ∷ ps) = ap (λ b. is_some (known_value (part_of seen p)) && b) (all_of_parts ps)

  pub into_values : (ps : List (PartialValue X)) (ms : List Made) (b : Bool) → b ≡ list_all (λ p. is_some (known_value (part_of seen p))) ps → b ≡ true → ms ≡ filter_map known_value (map (part_of seen) ps) → values_alone ms ≡ split (map (part_of seen) ps)
  into_values ps ms b e h m =
      let qs = map (part_of seen) ps in
      ap values_alone m ∙ sym (ap (λ o. option_map_or values_alone o (with_residuals (map part_tree qs))) (all_values qs (all_of_parts ps ∙ sym e ∙ h)))

  pub into_expressions : (ps : List (PartialValue X)) (ts : List Tree) (b : Bool) → b ≡ list_all (λ p. is_some (known_value (part_of seen p))) ps → b ≡ false → ts ≡ map part_tree (map (part_of seen) ps) → with_residuals ts ≡ split (map (part_of seen) ps)
  into_expressions ps ts b e h m =
      let qs = map (part_of seen) ps in
      ap with_residuals m ∙ sym (ap (λ o. option_map_or values_alone o (with_residuals (map part_tree qs))) (not_all_values qs (all_of_parts ps ∙ sym e ∙ h)))

-- the laws of split lists
pub expressions_are : (ps : List (Part Made)) (ts : List Tree) → (split ps ≡ with_residuals ts) ↔ ((all_known ps ≡ None) × (ts ≡ map part_tree ps))
expressions_are ps ts = (
  λ h. go (all_known ps) h,
  λ p. ap (λ o. option_map_or values_alone o (with_residuals (map part_tree ps))) p.0 ∙ ap with_residuals (sym p.1),
)
  where
    go : (o : Option (List Made)) → option_map_or values_alone o (with_residuals (map part_tree ps)) ≡ with_residuals ts → (o ≡ None) × (ts ≡ map part_tree ps)
    go None h = (refl, cc)
    go (Some ms) h = absurd (cc)

nothing_lost : (ps : List (Part Made)) (ms : List Made) → all_known ps ≡ Some ms → map written ms ≡ map part_tree ps
nothing_lost [] ms h = let e : [] ≡ ms = cc in ap (map written) (sym e)
nothing_lost (left t ∷ ps) ms h = absurd (cc)
nothing_lost (known m ∷ ps) ms h = go (all_known ps) refl h (nothing_lost ps)
  where
    go : (o : Option (List Made)) → all_known ps ≡ o → option_map (λ ns. m ∷ ns) o ≡ Some ms → ((ns : List Made) → all_known ps ≡ Some ns → map written ns ≡ map part_tree ps) → map written ms ≡ written m ∷ map part_tree ps
    go None k l f = absurd (cc)
    go (Some ns) k l f = let e : m ∷ ns ≡ ms = cc in ap (map written) (sym e) ∙ ap (λ ts. written m ∷ ts) (f ns k)

pub all_kept : (ps : List (Part Made)) → split_trees (split ps) ≡ map part_tree ps
all_kept ps = go (all_known ps) refl
  where
    go : (o : Option (List Made)) → all_known ps ≡ o → split_trees (option_map_or values_alone o (with_residuals (map part_tree ps))) ≡ map part_tree ps
    go None h = refl
    go (Some ms) h = nothing_lost ps ms h

-- what holds an extension value is no value when written
no_more : {A B C : Type 0} (g : A → B → C) (o : Option A) → option_and_then (λ a. option_map (g a) None) o ≡ None
no_more g None = refl
no_more g (Some a) = refl

either_none : {A B C : Type 0} (g : A → B → C) (o : Option A) (p : Option B) (a b : Bool) → (a && b) ≡ false → (a ≡ false → o ≡ None) → (b ≡ false → p ≡ None) → option_and_then (λ x. option_map (g x) p) o ≡ None
either_none g o p false b h f k = ap (option_and_then (λ x. option_map (g x) p)) (f refl)
either_none g o p true b h f k = ap (λ q. option_and_then (λ x. option_map (g x) q) o) (k h) ∙ no_more g o

mutual
  not_plain : (m : Made) → is_plain m ≡ false → value_of_tree (written m) ≡ None
  not_plain (made_prim p) h = absurd (cc)
  not_plain (made_set ms) h = ap (option_map set_made) (not_all_plain ms h)
  not_plain (made_record fs) h = ap (option_map record_of) (no_plain_fields fs h)
  not_plain (made_extension n k f ps) h = refl

  not_all_plain : (ms : Mades) → are_plain ms ≡ false → values_of_trees (writtens ms) ≡ None
  not_all_plain no_mades h = absurd (cc)
  not_all_plain (model.made m ms) h = either_none (λ v vs. v ∷ vs) (value_of_tree (written m)) (values_of_trees (writtens ms)) (is_plain m) (are_plain ms) h (not_plain m) (not_all_plain ms)

  no_plain_fields : (fs : MadeFields) → have_plain fs ≡ false → fields_of_trees (written_fields fs) ≡ None
  no_plain_fields no_made_fields h = absurd (cc)
  no_plain_fields (made_field a m fs) h = either_none (field a) (value_of_tree (written m)) (fields_of_trees (written_fields fs)) (is_plain m) (have_plain fs) h (not_plain m) (no_plain_fields fs)

pub back_again : (m : Made) → is_canonical (bare m) ≡ true → value_of_tree (written m) ≡ cond (is_plain m) (Some (bare m)) None
back_again m k = go (is_plain m) refl
  where
    go : (b : Bool) → is_plain m ≡ b → value_of_tree (written m) ≡ cond b (Some (bare m)) None
    go true h = written_is_value m h k
    go false h = not_plain m h
