-- Whether a name stands in a map, and which name a list of pairs repeats first.
use Rattle.std.proofs.Common.{◌≡◌, Bool, true, false, cond, ◌||◌, List, [], ◌∷◌, ◌++◌, Option, Some, None, Result, Ok, Err, IfErr, refl, sym, ap, ◌∙◌, subst, append_assoc}
use mathlib.Core.List.{append-nil}
use Rattle.std.proofs.lemmas.List.{map-append}
use Rattle.std.proofs.lemmas.Map.Text.{is_eq-slice_cmp}
use Rattle.std.specs.BTreeMap.{is_at}
use Rattle.std.specs.List.{list_any}
use Rattle.std.specs.Map.{lookup}
use Rattle.std.specs.Option.{is_some}
use Rattle.std.specs.Result.{IsErrAnd}
use Rattle.std.specs.Ordering.{match_ordering, is_eq}
use Rattle.std.specs.Rc.{rc_str_bytes}
use Rattle.std.specs.Str.{bytes_eq}
use Rattle.std.specs.declared.alloc.Global.{Global}
use Rattle.std.specs.declared.rc.RcStr.{RcStr}
use Rattle.std.specs.declared.cmp.Ordering.{Ordering}
use Rattle.std.specs.declared.cmp.Ordering.TheVariants.{Less, Equal, Greater}
use Rattle.cedar_expr_model.specs.Name.{Text}
use Rattle.cedar_expr_model.specs.Order.{text_cmp}
use Rattle.cedar_expr_model.specs.Records.{pair_placed, in_order}
use Rattle.cedar_expr_model.specs.Repeats.{first_again, repeated_name}
use Rattle.cedar_expr_model.proofs.Linear.{text_exact}
use Rattle.cedar_expr_values.specs.Fields.{by_text}
use Rattle.cedar_expr_trees.specs.Trees.{named}
use Rattle.cedar_expr_trees.specs.Refusals.{RefusesRecord, RefusesField, names_of}
use Rattle.cedar_expr_trees.specs.declared.err.ExpressionConstructionError.{ExpressionConstructionError}
use Rattle.cedar_expr_trees.specs.declared.err.ExpressionConstructionError.TheVariants.{OutOfMemory, DuplicateKey}

some_first : {A : Type 0} (b : Bool) (x : A) (o : Option A) (t : Bool) → is_some o ≡ t → is_some (cond b (Some x) o) ≡ (b || t)
some_first true x o t h = refl
some_first false x o t h = h

-- a look-up finds where the name is among the names
pub found_is : {A : Type 0} (k : RcStr Global) (es : List (RcStr Global × A)) → is_some (lookup (is_at (λ s. text_cmp (rc_str_bytes k) (rc_str_bytes s))) es) ≡ list_any (bytes_eq (rc_str_bytes k)) (names_of (named es))
found_is k [] = refl
found_is k (e ∷ es) =
    let rest = list_any (bytes_eq (rc_str_bytes k)) (names_of (named es)) in
    some_first (is_eq (text_cmp (rc_str_bytes k) (rc_str_bytes e.0))) e.1 (lookup (is_at (λ s. text_cmp (rc_str_bytes k) (rc_str_bytes s))) es) rest (found_is k es)
    ∙ ap (λ b. b || rest) (is_eq-slice_cmp (rc_str_bytes k) (rc_str_bytes e.0))

met_twice : (a b : Bool) (r : Bool) → a ≡ b → (b || r) ≡ (a || (b || r))
met_twice true b r e = ap (λ t. t || r) (sym e)
met_twice false b r e = refl

met_later : (a b r : Bool) → (b || (a || r)) ≡ (a || (b || r))
met_later true true r = refl
met_later true false r = refl
met_later false b r = refl

-- pairs in order have the names that they had
placed_names : {A : Type 0} (f : Text → Bool) (a : Text) (x : A) (ps : List (Text × A)) → list_any f (names_of (pair_placed a x ps)) ≡ (f a || list_any f (names_of ps))
placed_names f a x [] = refl
placed_names {A} f a x (p ∷ ps) = go (text_cmp a p.0) refl (placed_names f a x ps)
  where
    go : (r : Ordering) → text_cmp a p.0 ≡ r → list_any f (names_of (pair_placed a x ps)) ≡ (f a || list_any f (names_of ps)) → list_any f (names_of (match_ordering r ((a, x) ∷ p ∷ ps) (p ∷ ps) (p ∷ pair_placed a x ps))) ≡ (f a || (f p.0 || list_any f (names_of ps)))
    go Less e h = refl
    go Equal e h = met_twice (f a) (f p.0) (list_any f (names_of ps)) (ap f (text_exact a p.0 e))
    go Greater e h = ap (λ r. f p.0 || r) h ∙ met_later (f a) (f p.0) (list_any f (names_of ps))

pub ordered_names : {A : Type 0} (f : Text → Bool) (ps : List (Text × A)) → list_any f (names_of (in_order ps)) ≡ list_any f (names_of ps)
ordered_names f [] = refl
ordered_names f (p ∷ ps) = placed_names f p.0 p.1 (in_order ps) ∙ ap (λ r. f p.0 || r) (ordered_names f ps)

-- what is met again behind a row in which nothing is
behind : {A : Type 0} (eq : A → A → Bool) (before xs ys : List A) → first_again eq before xs ≡ None → first_again eq before (xs ++ ys) ≡ first_again eq (before ++ xs) ys
behind eq before [] ys h = ap (λ zs. first_again eq zs ys) (sym (append-nil before))
behind {A} eq before (x ∷ xs) ys h = go (list_any (eq x) before) h (behind eq (before ++ x ∷ []) xs ys) ∙ ap (λ zs. first_again eq zs ys) (append_assoc before (x ∷ []) xs)
  where
    go : (t : Bool) → cond t (Some x) (first_again eq (before ++ x ∷ []) xs) ≡ None → (first_again eq (before ++ x ∷ []) xs ≡ None → first_again eq (before ++ x ∷ []) (xs ++ ys) ≡ first_again eq ((before ++ x ∷ []) ++ xs) ys) → cond t (Some x) (first_again eq (before ++ x ∷ []) (xs ++ ys)) ≡ first_again eq ((before ++ x ∷ []) ++ xs) ys
    go true e k = absurd (cc)
    go false e k = k e

one_more : {A : Type 0} (ps qs : List (Text × A)) (a : Text) (x : A) (t : Bool) → repeated_name ps ≡ None → list_any (bytes_eq a) (names_of ps) ≡ t → repeated_name (ps ++ (a, x) ∷ qs) ≡ cond t (Some a) (first_again bytes_eq (names_of ps ++ a ∷ []) (names_of qs))
one_more {A} ps qs a x t h e =
    ap (first_again bytes_eq []) (map-append (λ (p : Text × A). p.0) ps ((a, x) ∷ qs))
    ∙ behind bytes_eq [] (names_of ps) (a ∷ names_of qs) h
    ∙ ap (λ b. cond b (Some a) (first_again bytes_eq (names_of ps ++ a ∷ []) (names_of qs))) e

module _ {A : Type 0} (es ps qs : List (RcStr Global × A)) (k : RcStr Global) (x : A) (made : named es ≡ in_order (named ps)) (distinct : repeated_name (named ps) ≡ None) where
  more : (t : Bool) → list_any (bytes_eq (rc_str_bytes k)) (names_of (named es)) ≡ t → repeated_name (named (ps ++ (k, x) ∷ qs)) ≡ cond t (Some (rc_str_bytes k)) (first_again bytes_eq (names_of (named ps) ++ rc_str_bytes k ∷ []) (names_of (named qs)))
  more t e =
      let among : list_any (bytes_eq (rc_str_bytes k)) (names_of (named ps)) ≡ t = sym (ordered_names (bytes_eq (rc_str_bytes k)) (named ps)) ∙ ap (λ rs. list_any (bytes_eq (rc_str_bytes k)) (names_of rs)) (sym made) ∙ e in
      ap repeated_name (map-append by_text ps ((k, x) ∷ qs)) ∙ one_more (named ps) (named qs) (rc_str_bytes k) x t distinct among

  -- a name that is there is the one that is repeated first
  pub met_again : list_any (bytes_eq (rc_str_bytes k)) (names_of (named es)) ≡ true → repeated_name (named (ps ++ (k, x) ∷ qs)) ≡ Some (rc_str_bytes k)
  met_again e = more true e

-- one that isn't there leaves the names distinct
pub still_distinct : {A : Type 0} (es ps : List (RcStr Global × A)) (k : RcStr Global) (x : A) → named es ≡ in_order (named ps) → repeated_name (named ps) ≡ None → list_any (bytes_eq (rc_str_bytes k)) (names_of (named es)) ≡ false → repeated_name (named (ps ++ (k, x) ∷ [])) ≡ None
still_distinct es ps k x made distinct e = more es ps [] k x made distinct false e

module _ {A : Type 0} (es ps qs : List (RcStr Global × A)) (k : RcStr Global) (x : A) (made : named es ≡ in_order (named ps)) (distinct : repeated_name (named ps) ≡ None) where
  -- why one more field is refused is why all of them are
  refused_field : (e : ExpressionConstructionError) → RefusesField (names_of (named es)) (rc_str_bytes k) e → RefusesRecord (named (ps ++ (k, x) ∷ qs)) e
  refused_field OutOfMemory h = tt
  refused_field (DuplicateKey e) h = (met_again es ps qs k x made distinct h.0 ∙ ap Some (sym h.1), h.2)

  pub refused_all : {B : Type 0} (all : List (RcStr Global × A)) (e : ExpressionConstructionError) (r : Result B ExpressionConstructionError) → all ≡ ps ++ (k, x) ∷ qs → IsErrAnd r (λ y. y ≡ e) → RefusesField (names_of (named es)) (rc_str_bytes k) e → IfErr r (RefusesRecord (named all))
  refused_all all e (Ok y) goes same h = tt
  refused_all all e (Err y) goes same h = subst (λ f. RefusesRecord (named all) f) (sym same) (subst (λ rs. RefusesRecord (named rs) e) (sym goes) (refused_field e h))
