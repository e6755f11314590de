-- What a table finds under a name, and how it answers there.
use Rattle.std.proofs.Common.{◌≡◌, ◌<◌, ℕ, zero, suc, get_or, Result, Ok, Err, List, [], ◌∷◌, map, length, Bool, true, false, cond, Option, Some, None, option_map, IfSome, find, refl, sym, ap, ◌∙◌, subst, arith}
use Rattle.std.specs.Prelude.{IsPermutation, All, Contains}
use Rattle.std.proofs.lemmas.List.Sorted.{IsPermutation-map}
use Rattle.std.proofs.lemmas.List.{length-map, get_or-map}
use Rattle.std.proofs.lemmas.List.Elements.{All-contains_itself}
use Rattle.std.proofs.lemmas.Map.Views.{All-map-IsPermutation}
use Rattle.std.proofs.lemmas.Cmp.{tied_back, alike_right, on_total, nat_list_cmp_total}
use Rattle.std.specs.Cmp.{IsTotalOrder}
use Rattle.std.specs.Ordering.{is_eq}
use Rattle.std.specs.Result.{MatchResult}
use Rattle.std.specs.List.Sorted.{IsStrictlySortedBy, IsSearchInRange, IsBinarySearchResult}
use Rattle.std.specs.declared.cmp.Ordering.{Ordering}
use Rattle.std.specs.declared.cmp.Ordering.TheVariants.{Less, Equal, Greater}
use Rattle.std.specs.Borrow.{Bor}
use Rattle.std.specs.List.{filter_map, cons_option}
use Rattle.cedar_expr_model.specs.Name as model
use Rattle.cedar_expr_model.specs.Name.{name_eq}
use Rattle.cedar_expr_model.specs.Table.{Signature}
use Rattle.cedar_expr_model.proofs.Equality.{name_eq-Decides}
use Rattle.cedar_expr_names.specs.Views.{plain_name_of, name_bytes}
use Rattle.cedar_expr_names.specs.declared.name.Name.{Name}
use Rattle.cedar_expr_functions.specs.Signatures.{given_type}
use Rattle.cedar_expr_functions.specs.Functions.{function_name, function_signature, IsAnsweredBy}
use Rattle.cedar_expr_functions.specs.Named.{NamesRise, names_compared, all_functions, all_signatures}
use Rattle.cedar_expr_functions.specs.Tables.{AnswersInTable, AnswersAsExtensions, AnswersAs, IsNamedIn, stored_in}
use Rattle.cedar_expr_functions.specs.declared.extension.Extension.{Extension}
use Rattle.cedar_expr_functions.specs.declared.extension.ExtensionFunction.{ExtensionFunction}
use Rattle.cedar_expr_functions.specs.declared.extensions.Extensions.{Extensions}
use Rattle.cedar_expr_values.proofs.Searched.{at_each, halved}
use Rattle.cedar_expr_functions.proofs.Distinct.{names_alike}

all_before : {A B : Type 0} (P : B → Type 0) (f : A → B) (xs : List A) → All P (map f xs) → All (λ x. P (f x)) xs
all_before P f xs h = λ k d below. subst P (get_or-map f xs k d (f d) below) (h k (f d) (subst (λ n. k < n) (sym (length-map xs f)) below))

names_total : IsTotalOrder names_compared
names_total = on_total (λ (n : Name). name_bytes n.internal) nat_list_cmp_total

-- no names rise
pub none_rise : IsStrictlySortedBy names_compared []
unfolding IsStrictlySortedBy
none_rise = tt

module _ {B : _} {F : _} {g : _} where
  -- the types that these functions give
  pub types_given : (fs vs : List (Bor (ExtensionFunction B F g))) → fs ≡ vs → filter_map (λ f. given_type (function_signature f.now)) fs ≡ filter_map given_type (map (λ f. function_signature f.now) vs)
  types_given fs vs e = ap (filter_map (λ f. given_type (function_signature f.now))) e ∙ go vs
    where
      go : (ws : List (Bor (ExtensionFunction B F g))) → filter_map (λ f. given_type (function_signature f.now)) ws ≡ filter_map given_type (map (λ f. function_signature f.now) ws)
      go [] = refl
      go (w ∷ ws) = ap (cons_option (given_type (function_signature w.now))) (go ws)

  -- the function of this name
  abbrev pub found_in : model.Name → List (Bor (ExtensionFunction B F g)) → Option (Bor (ExtensionFunction B F g))
  found_in n fs = find (λ f. name_eq n (function_name f.now)) fs

  -- by the order of names: whether two are the same
  named : (k : Name) (f : Bor (ExtensionFunction B F g)) → names_compared f.now.name k ≡ Equal → name_eq (plain_name_of k) (function_name f.now) ≡ true
  named k f e = sym (names_alike k f.now.name) ∙ ap is_eq (tied_back names_total f.now.name k e)

  not_named : (k : Name) (f : Bor (ExtensionFunction B F g)) → (names_compared f.now.name k ≡ Equal → ⊥) → name_eq (plain_name_of k) (function_name f.now) ≡ false
  not_named k f n = sym (names_alike k f.now.name) ∙ go (names_compared k f.now.name) refl
    where
      go : (r : Ordering) → names_compared k f.now.name ≡ r → is_eq r ≡ false
      go Less e = refl
      go Equal e = absurd (n (tied_back names_total k f.now.name e))
      go Greater e = refl

  -- a search that ends at a function of this name has found it
  found_at : (k : Name) (fs : List (Bor (ExtensionFunction B F g))) (i : ℕ) (d : Bor (ExtensionFunction B F g)) → NamesRise fs → i < length fs → names_compared ((get_or fs i d).now.name) k ≡ Equal → found_in (plain_name_of k) fs ≡ Some (get_or fs i d)
  unfolding IsStrictlySortedBy
  found_at k [] i d s h e = absurd (omega (arith, h))
  found_at k (f ∷ fs) zero d s h e = let t = named k f e in rw t refl
  found_at k (f ∷ fs) (suc i) d s h e =
      let less = at_each names_total (λ (f : Bor (ExtensionFunction B F g)). f.now.name) (λ n. names_compared f.now.name n ≡ Less) fs i d s.0 (omega (arith, h)) in
      let below : names_compared f.now.name k ≡ Less = sym (alike_right names_total (get_or fs i d).now.name k f.now.name e) ∙ less in
      let t = not_named k f (λ e'. let z = sym e' ∙ below in absurd (cc)) in
      rw t (found_at k fs i d s.1 (omega (arith, h)) e)

  not_found : (k : Name) (fs : List (Bor (ExtensionFunction B F g))) → ((i : ℕ) (d : Bor (ExtensionFunction B F g)) → i < length fs → names_compared ((get_or fs i d).now.name) k ≡ Equal → ⊥) → found_in (plain_name_of k) fs ≡ None
  not_found k [] n = refl
  not_found k (f ∷ fs) n = let t = not_named k f (n 0 f (omega arith)) in rw t (not_found k fs (λ i d h. n (suc i) d (omega (arith, h))))

  -- a search by halving finds what a look-up finds
  pub searched : (k : Name) (fs xs : List (Bor (ExtensionFunction B F g))) (r : Result ℕ ℕ) → xs ≡ fs → IsSearchInRange r (length xs) → IsBinarySearchResult (λ f. names_compared f.now.name k) xs r → NamesRise fs
      → MatchResult r (λ i. (f : Bor (ExtensionFunction B F g)) → f ≡ get_or fs i f → Some f ≡ found_in (plain_name_of k) fs) (λ i. None ≡ found_in (plain_name_of k) fs)
  searched k fs xs r e h b s = go r h (halved names_total (λ (f : Bor (ExtensionFunction B F g)). f.now.name) k xs r h b rising)
    where
      rising : NamesRise xs
      rising = subst NamesRise (sym e) s

      go : (r : Result ℕ ℕ) → IsSearchInRange r (length xs) → MatchResult r (λ i. (d : Bor (ExtensionFunction B F g)) → names_compared ((get_or xs i d).now.name) k ≡ Equal) (λ j. (i : ℕ) (d : Bor (ExtensionFunction B F g)) → i < length xs → names_compared ((get_or xs i d).now.name) k ≡ Equal → ⊥)
          → MatchResult r (λ i. (f : Bor (ExtensionFunction B F g)) → f ≡ get_or fs i f → Some f ≡ found_in (plain_name_of k) fs) (λ i. None ≡ found_in (plain_name_of k) fs)
      go (Ok i) h m = λ f at. ap Some (at ∙ ap (λ ys. get_or ys i f) (sym e)) ∙ sym (found_at k xs i f rising h (m f)) ∙ ap (found_in (plain_name_of k)) e
      go (Err i) h m = sym (not_found k xs m) ∙ ap (found_in (plain_name_of k)) e

  -- what is found has the signature that is found
  pub signature_found : (n : model.Name) (fs : List (Bor (ExtensionFunction B F g))) → option_map (λ f. function_signature f.now) (found_in n fs) ≡ find (λ s. name_eq n s.name) (map (λ f. function_signature f.now) fs)
  signature_found n [] = refl
  signature_found n (f ∷ fs) = go (name_eq n (function_name f.now)) (signature_found n fs)
    where
      go : (b : Bool) → option_map (λ f. function_signature f.now) (found_in n fs) ≡ find (λ s. name_eq n s.name) (map (λ f. function_signature f.now) fs)
          → option_map (λ f. function_signature f.now) (cond b (Some f) (found_in n fs)) ≡ cond b (Some (function_signature f.now)) (find (λ s. name_eq n s.name) (map (λ f. function_signature f.now) fs))
      go true h = refl
      go false h = h

  -- what is found has this name, and is one of those
  found_name : (n : model.Name) (fs : List (Bor (ExtensionFunction B F g))) → IfSome (found_in n fs) (λ f. function_name f.now ≡ n)
  found_name n [] = tt
  found_name n (f ∷ fs) = go (name_eq n (function_name f.now)) refl (found_name n fs)
    where
      go : (b : Bool) → name_eq n (function_name f.now) ≡ b → IfSome (found_in n fs) (λ f. function_name f.now ≡ n) → IfSome (cond b (Some f) (found_in n fs)) (λ f. function_name f.now ≡ n)
      go true e h = sym ((name_eq-Decides n (function_name f.now)).0 e)
      go false e h = h

  found_holds : (P : Bor (ExtensionFunction B F g) → Type 0) (q : Bor (ExtensionFunction B F g) → Bool) (fs : List (Bor (ExtensionFunction B F g))) → All P fs → IfSome (find q fs) P
  found_holds P q [] h = tt
  found_holds P q (f ∷ fs) h = go (q f) (found_holds P q fs (λ k d below. h (suc k) d (omega (arith, below))))
    where
      go : (b : Bool) → IfSome (find q fs) P → IfSome (cond b (Some f) (find q fs)) P
      go true k = h 0 f (omega arith)
      go false k = k

  -- what is found answers as the table does
  pub found_answers : (t : Extensions B F g) (n : model.Name) (o : Option (Bor (ExtensionFunction B F g))) → o ≡ found_in n t.functions.items → IfSome o (λ f. AnswersInTable t n f.now)
  found_answers t n None e = tt
  found_answers t n (Some f) e = record {
    answered = λ answers by.
        subst (λ n. IsAnsweredBy f.now (answers n))
        (subst (λ o. IfSome o (λ f. function_name f.now ≡ n)) (sym e) (found_name n t.functions.items))
        (subst (λ o. IfSome o (λ f. IsAnsweredBy f.now (answers (function_name f.now)))) (sym e) (found_holds (λ f. IsAnsweredBy f.now (answers (function_name f.now))) _ t.functions.items by.each));
  }

  -- what is found is one of the table's functions, under its name
  pub found_named : (t : Extensions B F g) (n : model.Name) (o : Option (Bor (ExtensionFunction B F g))) → o ≡ found_in n t.functions.items → IfSome o (λ f. IsNamedIn t n f.now)
  found_named t n None e = tt
  found_named t n (Some f) e = record {
    named = subst (λ o. IfSome o (λ f. function_name f.now ≡ n)) (sym e) (found_name n t.functions.items);
    among =
        subst (λ o. IfSome o (λ f. Contains (stored_in t) f.now)) (sym e)
        (found_holds (λ f. Contains (stored_in t) f.now) _ t.functions.items (all_before (Contains (stored_in t)) (λ f. f.now) t.functions.items (All-contains_itself (stored_in t))));
  }

  -- a table of these functions keeps them
  pub moved_functions : (es : List (Extension B F g)) (fs vs : List (Bor (ExtensionFunction B F g))) → map (λ f. f.now) fs ≡ all_functions es → IsPermutation fs vs → IsPermutation (all_functions es) (map (λ f. f.now) vs)
  moved_functions es fs vs e m = subst (λ gs. IsPermutation gs (map (λ f. f.now) vs)) e (IsPermutation-map (λ (f : Bor (ExtensionFunction B F g)). f.now) fs vs m)

  -- a table of these functions has their signatures
  pub moved_signatures : (es : List (Extension B F g)) (fs vs : List (Bor (ExtensionFunction B F g))) → map (λ f. f.now) fs ≡ all_functions es → IsPermutation fs vs → IsPermutation (all_signatures es) (map (λ f. function_signature f.now) vs)
  moved_signatures es fs vs e m = subst (λ ss. IsPermutation ss (map (λ f. function_signature f.now) vs)) (along fs ∙ ap (map function_signature) e) (IsPermutation-map (λ (f : Bor (ExtensionFunction B F g)). function_signature f.now) fs vs m)
    where
      along : (ws : List (Bor (ExtensionFunction B F g))) → map (λ f. function_signature f.now) ws ≡ map function_signature (map (λ f. f.now) ws)
      along [] = refl
      along (w ∷ ws) = ap (λ ss. function_signature w.now ∷ ss) (along ws)

  -- and answers as they do
  pub moved_answers : (es : List (Extension B F g)) (fs : List (Bor (ExtensionFunction B F g))) (t : Extensions B F g) → map (λ f. f.now) fs ≡ all_functions es → IsPermutation fs t.functions.items → AnswersAsExtensions es t
  moved_answers es fs t e m = record {
    answered = λ answers all. record {
      each =
          all_before (λ f. IsAnsweredBy f (answers (function_name f))) (λ f. f.now) t.functions.items
          (All-map-IsPermutation (λ f. f.now) (λ f. IsAnsweredBy f (answers (function_name f))) fs t.functions.items m (subst (All (λ f. IsAnsweredBy f (answers (function_name f)))) (sym e) all));
    };
  }
