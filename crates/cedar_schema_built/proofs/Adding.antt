-- One more under a key, in a map of rows by key.
use Rattle.std.proofs.Common.{◌≡◌, Bool, true, false, cond, List, [], ◌∷◌, ◌++◌, Option, Some, None, IsSome, refl, subst, sym, ap, ◌∙◌}
use Rattle.std.specs.Prelude.{if◌then◌else◌}
use Rattle.std.specs.BTreeMap.{is_at}
use Rattle.std.specs.Cmp.{IsTotalOrder}
use Rattle.std.specs.Map.{lookup}
use Rattle.std.specs.Option.{option_map_or}
use Rattle.std.specs.Ordering.{eq_by_cmp}
use Rattle.std.specs.declared.alloc.Global.{Global}
use Rattle.std.specs.declared.cmp.Ordering.{Ordering}
use Rattle.std.specs.declared.vec.Vec.{Vec}
use Rattle.std.proofs.lemmas.Cmp.{eq_by_cmp_equiv}
use Rattle.cedar_schema_built.specs.Above.{row_of, with_above, IsTaken, IsAdded}

pub some_is : {A : Type 0} (o : Option A) (a : A) → o ≡ Some a → IsSome o
some_is o a e = subst IsSome (sym e) refl

module _ {K : Type 0} (cmp : K → K → Ordering) (total : IsTotalOrder cmp) where
  turned : (p q : K) (b : Bool) → eq_by_cmp cmp q p ≡ b → is_at (cmp p) q ≡ b
  turned p q b e = (eq_by_cmp_equiv total).symm p q ∙ e

  -- keys that are equal in the order find the same
  pub same_row : {V : Type 0} (es : List (K × V)) (p q : K) → eq_by_cmp cmp q p ≡ true → lookup (is_at (cmp p)) es ≡ lookup (is_at (cmp q)) es
  same_row [] p q h = refl
  same_row (e ∷ es) p q h = λ i. cond (sym ((eq_by_cmp_equiv total).congr q p e.0 h) i) (Some e.1) (same_row es p q h i)

  module _ (old new : K → Option (Vec K Global)) (key : K) where
    -- what is taken out leaves the others
    pub taken : ((q : K) → new q ≡ cond (is_at (cmp key) q) None (old q)) → IsTaken cmp key old new
    taken h = record { others = λ q e. ap (λ o. option_map_or (λ r. r.items) o []) (h q ∙ ap (λ t. cond t None (old q)) (turned key q false e)) }

    -- what is put in
    pub added : (v : K) (row : Vec K Global)
        → ((q : K) → new q ≡ cond (is_at (cmp key) q) (Some row) (old q)) → row.items ≡ (row_of old key ++ v ∷ []) → ((p q : K) → eq_by_cmp cmp q p ≡ true → old p ≡ old q) → IsAdded cmp key v old new
    added v row put has alike = record { each = λ q. go q (eq_by_cmp cmp q key) refl }
      where
        go : (q : K) (t : Bool) → eq_by_cmp cmp q key ≡ t → row_of new q ≡ with_above (eq_by_cmp cmp) q v key (row_of old q)
        go q true e =
            ap (λ o. option_map_or (λ r. r.items) o []) (put q ∙ ap (λ t. cond t (Some row) (old q)) (turned key q true e))
            ∙ has
            ∙ ap (λ o. option_map_or (λ r. r.items) o [] ++ v ∷ []) (alike key q e)
            ∙ ap (λ t. if t then row_of old q ++ v ∷ [] else row_of old q) (sym e)
        go q false e =
            ap (λ o. option_map_or (λ r. r.items) o []) (put q ∙ ap (λ t. cond t (Some row) (old q)) (turned key q false e))
            ∙ ap (λ t. if t then row_of old q ++ v ∷ [] else row_of old q) (sym e)
