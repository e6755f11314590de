-- What rows feed a hasher, step by step.
use Rattle.std.proofs.Common.{◌≡◌, ◌+◌, ◌<◌, ℕ, List, [], ◌∷◌, ◌++◌, map, length, get_or, drop, refl, sym, ap, ◌∙◌, arith, append_assoc}
use Rattle.std.specs.Prelude.{fold}
use Rattle.std.specs.List.{flat_map}
use Rattle.std.specs.Hash as fed
use Rattle.std.specs.Hash.{HashWrites}
use Rattle.std.specs.Rc.{rc_str_bytes}
use Rattle.std.proofs.lemmas.List.{drop_more, length-map}
use Rattle.std.proofs.lemmas.List.Concat.{flat_map-cons}
use Rattle.std.proofs.lemmas.List.Sums.{fold-append}
use Rattle.std.specs.declared.alloc.Global.{Global}
use Rattle.std.specs.declared.rc.RcStr.{RcStr}
use Rattle.cedar_expr_leaves.specs.Patterns.{element_of}
use Rattle.cedar_expr_leaves.specs.contracts.pattern.PatternElemHash.TheImpl as element_hash
use Rattle.cedar_expr_leaves.specs.declared.pattern.PatternElem.{PatternElem}
use Rattle.cedar_expr_leaves.specs.declared.pattern.PatternElem.TheVariants.{Char, Wildcard}
use Rattle.cedar_expr_model.specs.Builder.{trees, tree_fields}
use Rattle.cedar_expr_trees.specs.declared.expr.Expr.{Expr}
use Rattle.cedar_expr_trees.specs.Trees.{tree_of, named, field_trees}
use Rattle.cedar_expr_shapes.specs.Hashed.{element_input, tree_input, trees_input, tree_fields_input, count, field_count}

module _ {S : Type 0} (w : S → List ℕ → S) where
  -- steps, one after the other
  pub two_steps : (s t u : S) (as_ bs : HashWrites) → t ≡ fold w s as_ → u ≡ fold w t bs → u ≡ fold w s (as_ ++ bs)
  two_steps s t u as_ bs e f = f ∙ ap (λ r. fold w r bs) e ∙ sym (fold-append w s as_ bs)

  pub three_steps : (s t u v : S) (as_ bs cs : HashWrites) → t ≡ fold w s as_ → u ≡ fold w t bs → v ≡ fold w u cs → v ≡ fold w s (as_ ++ (bs ++ cs))
  three_steps s t u v as_ bs cs e f g = two_steps s t v as_ (bs ++ cs) e (two_steps t u v bs cs f g)

  module _ {T : Type 0} where
    -- expressions in a row, and fields
    abbrev pub all_fed : List (Expr T) → HashWrites
    all_fed es = trees_input (trees (map tree_of es))

    abbrev pub fields_fed : List (RcStr Global × Expr T) → HashWrites
    fields_fed es = tree_fields_input (tree_fields (named (field_trees es)))

    pub one_fed : (s t : S) (xs : List (Expr T)) (i : ℕ) (x : Expr T) (end_ : S) → i < length xs → x ≡ get_or xs i x → fold w s (all_fed (drop i xs)) ≡ end_ → t ≡ fold w s (tree_input (tree_of x)) → fold w t (all_fed (drop (i + 1) xs)) ≡ end_
    one_fed s t xs i x end_ h at inv e =
        ap (λ r. fold w r (all_fed (drop (i + 1) xs))) e
        ∙ sym (fold-append w s (tree_input (tree_of x)) (all_fed (drop (i + 1) xs)))
        ∙ sym (ap (λ ys. fold w s (all_fed ys)) (drop_more xs i x h ∙ ap (λ y. y ∷ drop (i + 1) xs) (sym at)))
        ∙ inv

    pub field_fed : (s t u : S) (es fs : List (RcStr Global × Expr T)) (k : RcStr Global) (x : Expr T) (end_ : S) → es ≡ (k, x) ∷ fs → fold w s (fields_fed es) ≡ end_ → t ≡ fold w s (fed.str (rc_str_bytes k)) → u ≡ fold w t (tree_input (tree_of x)) → fold w u (fields_fed fs) ≡ end_
    field_fed s t u es fs k x end_ e inv f g =
        ap (λ r. fold w r (fields_fed fs)) (two_steps s t u (fed.str (rc_str_bytes k)) (tree_input (tree_of x)) f g)
        ∙ sym (fold-append w s (fed.str (rc_str_bytes k) ++ tree_input (tree_of x)) (fields_fed fs))
        ∙ ap (fold w s) (append_assoc (fed.str (rc_str_bytes k)) (tree_input (tree_of x)) (fields_fed fs))
        ∙ sym (ap (λ es. fold w s (fields_fed es)) e)
        ∙ inv

-- as many as there are
pub counted : {T : Type 0} (es : List (Expr T)) → length es ≡ count (trees (map tree_of es))
counted [] = refl
counted (e ∷ es) = let h = counted es in grind arith

pub fields_counted : {T : Type 0} (es : List (RcStr Global × Expr T)) → length es ≡ field_count (tree_fields (named (field_trees es)))
fields_counted [] = refl
fields_counted (e ∷ es) = let h = fields_counted es in grind arith

-- rows are fed as what their items are
flat_by : {X Y : Type 0} (f : X → HashWrites) (g : Y → HashWrites) (view : X → Y) → ((x : X) → f x ≡ g (view x)) → (xs : List X) → flat_map f xs ≡ flat_map g (map view xs)
flat_by f g view h [] = refl
flat_by f g view h (x ∷ xs) =
    flat_map-cons f x xs ∙ ap (λ ys. ys ++ flat_map f xs) (h x) ∙ ap (λ ys. g (view x) ++ ys) (flat_by f g view h xs) ∙ sym (flat_map-cons g (view x) (map view xs))

pub slices_fed : {X Y : Type 0} (f : X → HashWrites) (g : Y → HashWrites) (view : X → Y) → ((x : X) → f x ≡ g (view x)) → (xs : List X) → fed.slice f xs ≡ fed.slice g (map view xs)
slices_fed f g view h xs =
    ap (λ n. fed.usize n ++ flat_map f xs) (sym (length-map xs view)) ∙ ap (λ ys. fed.usize (length (map view xs)) ++ ys) (flat_by f g view h xs)

-- so are the elements of patterns
element_fed : (e : PatternElem) → (element_hash.ghosts).hash_input e ≡ element_input (element_of e)
element_fed (Char c) = refl
element_fed Wildcard = refl

pub elements_fed : (es : List PatternElem) → fed.slice (element_hash.ghosts).hash_input es ≡ fed.slice element_input (map element_of es)
elements_fed es = slices_fed (element_hash.ghosts).hash_input element_input element_of element_fed es
