-- What is met again among names and types, as the model has it.
use Rattle.std.proofs.Common.{◌≡◌, ◌<◌, zero, suc, List, [], ◌∷◌, ◌++◌, map, get_or, length, Bool, true, false, cond, ◌||◌, Option, Some, None, option_map, refl, sym, ap, ◌∙◌, subst, arith}
use Rattle.std.specs.Prelude.{IsPermutation, All}
use Rattle.std.proofs.lemmas.List.{map-append}
use Rattle.std.proofs.lemmas.List.Sorted.{IsPermutation-map, All-permutation}
use Rattle.std.proofs.lemmas.Map.Text.{is_eq-slice_cmp}
use Rattle.std.specs.Borrow.{Bor}
use Rattle.std.specs.List.{list_any, AllByRecursion}
use Rattle.std.specs.List.Sorted.{IsStrictlySortedBy}
use Rattle.std.specs.Map.{keys_of, values_of}
use Rattle.std.specs.Ordering.{eq_by_cmp, is_eq}
use Rattle.cedar_expr_model.specs.Name.{name_eq}
use Rattle.cedar_expr_model.specs.Order.{core_eq}
use Rattle.cedar_expr_model.specs.Repeats.{first_again, repeated}
use Rattle.cedar_expr_names.specs.Views.{name_bytes, plain_name_of}
use Rattle.cedar_expr_names.specs.contracts.name.NameOrd.TheImpl as name_order
use Rattle.cedar_expr_names.specs.declared.name.Name.{Name}
use Rattle.cedar_expr_names.proofs.Equality.{names_eq_is}
use Rattle.cedar_expr_values.specs.Types.{core_of}
use Rattle.cedar_expr_values.specs.contracts.types.TypeOrd.TheImpl as type_order
use Rattle.cedar_expr_values.specs.declared.types.Type.{«Type» as CoreKind}
use Rattle.cedar_expr_values.proofs.CoreTypes.{types_cmp_is}
use Rattle.std.specs.declared.cmp.Ordering.{Ordering}
use Rattle.std.specs.declared.cmp.Ordering.TheVariants.{Less}
use Rattle.cedar_expr_functions.specs.Collected.{RefusesKeys}
use Rattle.cedar_expr_functions.specs.declared.err.CollectError.{CollectError}
use Rattle.cedar_expr_functions.specs.declared.err.CollectError.TheVariants.{Repeated}
use Rattle.cedar_expr_functions.specs.Functions.{function_name}
use Rattle.cedar_expr_functions.specs.Named.{NamesRise}
use Rattle.cedar_expr_functions.specs.declared.extension.ExtensionFunction.{ExtensionFunction}

module _ {A B : Type 0} (f : A → B) (eq : A → A → Bool) (same : B → B → Bool) (alike : (x y : A) → eq x y ≡ same (f x) (f y)) where
  among : (x : A) (ys : List A) → list_any (eq x) ys ≡ list_any (same (f x)) (map f ys)
  among x [] = refl
  among x (y ∷ ys) = ap (λ b. b || list_any (eq x) ys) (alike x y) ∙ ap (λ b. same (f x) (f y) || b) (among x ys)

  again : (before xs : List A) → option_map f (first_again eq before xs) ≡ first_again same (map f before) (map f xs)
  again before [] = refl
  again before (x ∷ xs) = go (list_any (eq x) before) (list_any (same (f x)) (map f before)) (among x before) (again (before ++ x ∷ []) xs ∙ ap (λ bs. first_again same bs (map f xs)) (map-append f before (x ∷ [])))
    where
      go : (s t : Bool) → s ≡ t → option_map f (first_again eq (before ++ x ∷ []) xs) ≡ first_again same (map f before ++ f x ∷ []) (map f xs)
          → option_map f (cond s (Some x) (first_again eq (before ++ x ∷ []) xs)) ≡ cond t (Some (f x)) (first_again same (map f before ++ f x ∷ []) (map f xs))
      go true t e h = ap (λ b. cond b (Some (f x)) (first_again same (map f before ++ f x ∷ []) (map f xs))) e
      go false t e h = h ∙ ap (λ b. cond b (Some (f x)) (first_again same (map f before ++ f x ∷ []) (map f xs))) e

  -- what is met again, under another view
  seen_again : (xs : List A) (r : Option A) → repeated eq xs ≡ r → repeated same (map f xs) ≡ option_map f r
  seen_again xs r h = sym (again [] xs) ∙ ap (option_map f) h

map_map : {A B C : Type 0} (f : A → B) (h : B → C) (xs : List A) → map h (map f xs) ≡ map (λ x. h (f x)) xs
map_map f h [] = refl
map_map f h (x ∷ xs) = ap (λ ys. h (f x) ∷ ys) (map_map f h xs)

-- equal keys are equal names
pub names_alike : (m n : Name) → eq_by_cmp (name_order.ghosts).cmp m n ≡ name_eq (plain_name_of m) (plain_name_of n)
names_alike m n = is_eq-slice_cmp (name_bytes m.internal) (name_bytes n.internal) ∙ names_eq_is m.internal n.internal

types_alike : (a b : CoreKind) → eq_by_cmp (type_order.ghosts).cmp a b ≡ core_eq (core_of a) (core_of b)
types_alike a b = ap is_eq (types_cmp_is a b)

-- a type that is met again among keys
pub types_again : {X : Type 0} (ps : List (CoreKind × X)) (ts : _) (r : Option CoreKind) → map (λ p. core_of p.0) ps ≡ ts → repeated (eq_by_cmp (type_order.ghosts).cmp) (keys_of ps) ≡ r → repeated core_eq ts ≡ option_map core_of r
types_again ps ts r e h = ap (repeated core_eq) (sym e ∙ sym (map_map (λ (p : CoreKind × _). p.0) core_of ps)) ∙ seen_again core_of (eq_by_cmp (type_order.ghosts).cmp) core_eq types_alike (keys_of ps) r h

-- names that are lent, in their order
abbrev pub lent_cmp : Bor Name → Bor Name → Ordering
lent_cmp m n = (name_order.ghosts).cmp m.now n.now

-- a name that is met again among keys
pub names_again : {B : _} {F : _} {g : _} {X : Type 0} (ps : List (Bor Name × X)) (fs : List (Bor (ExtensionFunction B F g))) (r : Option (Bor Name)) → map (λ p. p.0.now) ps ≡ map (λ f. f.now.name) fs → repeated (eq_by_cmp lent_cmp) (keys_of ps) ≡ r → repeated name_eq (map (λ f. function_name f.now) fs) ≡ option_map (λ n. plain_name_of n.now) r
names_again {B} {F} {g} ps fs r e h =
    ap (repeated name_eq)
    (sym (map_map (λ (f : Bor (ExtensionFunction B F g)). f.now.name) plain_name_of fs) ∙ ap (map plain_name_of) (sym e) ∙ map_map (λ (p : Bor Name × _). p.0.now) plain_name_of ps ∙ sym (map_map (λ (p : Bor Name × _). p.0) (λ (n : Bor Name). plain_name_of n.now) ps))
    ∙ seen_again (λ (n : Bor Name). plain_name_of n.now) (eq_by_cmp lent_cmp) name_eq (λ m n. names_alike m.now n.now) (keys_of ps) r h

-- what a refusal of keys says
pub refused_key : {K : Type 0} (cmp : K → K → Ordering) (ks : List K) (e : CollectError K) (k : K) → e ≡ Repeated k → RefusesKeys cmp ks e → repeated (eq_by_cmp cmp) ks ≡ Some k
refused_key cmp ks e k h r = subst (RefusesKeys cmp ks) h r

module _ {A B : Type 0} (f h : A → B) where
  same_all : (xs : List A) → map f xs ≡ map h xs → All (λ x. f x ≡ h x) xs
  same_all [] e k d below = absurd (omega (arith, below))
  same_all (x ∷ xs) e zero d below = cc
  same_all (x ∷ xs) e (suc k) d below = let rest : map f xs ≡ map h xs = cc in same_all xs rest k d (omega (arith, below))

  all_same : (xs : List A) → All (λ x. f x ≡ h x) xs → map f xs ≡ map h xs
  all_same [] a = refl
  all_same (x ∷ xs) a = let first : f x ≡ h x = a 0 x (omega arith) in let rest = all_same xs (λ k d below. a (suc k) d (omega (arith, below))) in cc

-- what is lent rises where it does by itself
all_lent : (n : Name) (ns : List (Bor Name)) → AllByRecursion (λ m. (name_order.ghosts).cmp n m.now ≡ Less) ns → AllByRecursion (λ m. (name_order.ghosts).cmp n m ≡ Less) (map (λ m. m.now) ns)
all_lent n [] h = h
all_lent n (m ∷ ns) h = (h.0, all_lent n ns h.1)

lent_rise : (ns : List (Bor Name)) → IsStrictlySortedBy lent_cmp ns → IsStrictlySortedBy (name_order.ghosts).cmp (map (λ n. n.now) ns)
unfolding IsStrictlySortedBy
lent_rise [] h = h
lent_rise (n ∷ ns) h = (all_lent n.now ns h.0, lent_rise ns h.1)

module _ {B : _} {F : _} {g : _} where
  -- the values of entries that are these pairs are their functions
  pub moved_values : (ps es : List (Bor Name × Bor (ExtensionFunction B F g))) (fs : List (Bor (ExtensionFunction B F g))) → map (λ p. p.1) ps ≡ fs → IsPermutation ps es → IsPermutation fs (values_of es)
  moved_values ps es fs v m = subst (λ gs. IsPermutation gs (values_of es)) v (IsPermutation-map (λ (p : Bor Name × Bor (ExtensionFunction B F g)). p.1) ps es m)

  -- and the names of these rise, where the keys do
  pub named_rise : (ps es : List (Bor Name × Bor (ExtensionFunction B F g))) (fs : List (Bor (ExtensionFunction B F g))) → map (λ p. p.0.now) ps ≡ map (λ f. f.now.name) fs → map (λ p. p.1) ps ≡ fs → IsPermutation ps es
      → IsStrictlySortedBy lent_cmp (keys_of es) → NamesRise (values_of es)
  named_rise ps es fs n v m s =
      let key : (Bor Name × Bor (ExtensionFunction B F g)) → Name = λ p. p.0.now in
      let name : (Bor Name × Bor (ExtensionFunction B F g)) → Name = λ p. p.1.now.name in
      let paired = same_all key name ps (n ∙ ap (map (λ f. f.now.name)) (sym v) ∙ map_map (λ p. p.1) (λ (f : Bor (ExtensionFunction B F g)). f.now.name) ps) in
      let named = all_same key name es (All-permutation (λ p. key p ≡ name p) ps es m paired) in
      subst (IsStrictlySortedBy (name_order.ghosts).cmp) (map_map (λ p. p.0) (λ (k : Bor Name). k.now) es ∙ named ∙ sym (map_map (λ p. p.1) (λ (f : Bor (ExtensionFunction B F g)). f.now.name) es)) (lent_rise (keys_of es) s)
