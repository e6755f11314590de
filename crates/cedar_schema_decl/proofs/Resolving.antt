-- What names mean by sets of what is declared is what the references mean.
use Rattle.std.proofs.Common.{◌≡◌, Bool, true, false, cond, ◌||◌, List, [], ◌∷◌, ◌++◌, Option, Some, None, Result, Ok, Err, IfOk, find, refl, sym, ap, ◌∙◌, subst}
use Rattle.std.specs.List.{flat_map}
use Rattle.std.specs.Option.{option_or}
use Rattle.cedar_expr_model.specs.Name.{Text, Name}
use Rattle.cedar_expr_model.specs.Names.{possibilities}
use Rattle.cedar_schema_model.specs.Reference.{ReferenceKind, to_entity, to_common, to_either, Meant, meant_common, meant_entity, meant_at, places}
use Rattle.cedar_schema_model.specs.Declarations.{Declarations, is_declared, meant}
use Rattle.cedar_schema_decl.specs.Conditional.{conditional_in}
use Rattle.cedar_schema_decl.specs.Defined.{Defined, is_defined, meant_by, meant_name}
use Rattle.cedar_schema_decl.specs.Laws.{HasDeclared, namespace_parts}

-- finding by tests that agree, in two lists one after the other, and in a list that stands twice
same_find : {A : Type 0} (p q : A → Bool) → ((x : A) → p x ≡ q x) → (xs : List A) → find p xs ≡ find q xs
same_find p q h [] = refl
same_find p q h (x ∷ xs) = (λ i. cond (h x i) (Some x) (same_find p q h xs i))

or_case : {A : Type 0} (b : Bool) (x : A) (o q : Option A) → option_or (cond b (Some x) o) q ≡ cond b (Some x) (option_or o q)
or_case true x o q = refl
or_case false x o q = refl

find_after : {A : Type 0} (p : A → Bool) (xs ys : List A) → find p (xs ++ ys) ≡ option_or (find p xs) (find p ys)
find_after p [] ys = refl
find_after p (x ∷ xs) ys = ap (cond (p x) (Some x)) (find_after p xs ys) ∙ sym (or_case (p x) x (find p xs) (find p ys))

itself : {A : Type 0} (o : Option A) → option_or o o ≡ o
itself None = refl
itself (Some x) = refl

append_none : {A : Type 0} (xs : List A) → xs ++ [] ≡ xs
append_none [] = refl
append_none (x ∷ xs) = ap (λ ys. x ∷ ys) (append_none xs)

find_twice : {A : Type 0} (p : A → Bool) (xs : List A) → find p (xs ++ []) ≡ find p (xs ++ (xs ++ []))
find_twice p xs = sym (itself (find p (xs ++ []))) ∙ ap (λ q. option_or q (find p (xs ++ []))) (ap (find p) (append_none xs)) ∙ sym (find_after p xs (xs ++ []))

-- what a name may stand for is what is tried for the reference
abbrev of_parts : List Text → Text → Name
of_parts path base = record { path = path; base = base }

places_found : (p : Meant → Bool) (k : ReferenceKind) (space : Option Name) (path : List Text) (base : Text) → find p (flat_map (meant_at k) (possibilities space (of_parts path base))) ≡ find p (flat_map (meant_at k) (places (namespace_parts space) (of_parts path base)))
places_found p k None [] base = find_twice p (meant_at k (of_parts [] base))
places_found p k None (x ∷ path) base = refl
places_found p k (Some s) [] base = refl
places_found p k (Some s) (x ∷ path) base = refl

pub names_mean : (s : Defined) (d : Declarations) → HasDeclared s d → (space : Option Name) (k : ReferenceKind) (n : Name) → meant_by s (conditional_in space k n) ≡ meant d (record { namespace = namespace_parts space; kind = k; name = n })
names_mean s d h space k n = same_find (is_defined s) (is_declared d) h (flat_map (meant_at k) (possibilities space n)) ∙ places_found (is_declared d) k space n.path n.base

-- what is meant is found again at its name alone
module _ (p : Meant → Bool) where
  alone : (k : ReferenceKind) (n m : Meant) → find p (meant_at k (meant_name n)) ≡ Some n → Some n ≡ Some m → find p (meant_at k (meant_name m)) ≡ Some m
  alone k n m h e = let i : n ≡ m = cc in subst (λ q. find p (meant_at k (meant_name q)) ≡ Some q) i h

  either_first : (n : Name) → p (meant_common n) ≡ true → find p (meant_at to_either n) ≡ Some (meant_common n)
  either_first n e = ap (λ c. cond c (Some (meant_common n)) (cond (p (meant_entity n)) (Some (meant_entity n)) None)) e

  either_next : (n : Name) → p (meant_common n) ≡ false → p (meant_entity n) ≡ true → find p (meant_at to_either n) ≡ Some (meant_entity n)
  either_next n e f = ap (λ c. cond c (Some (meant_common n)) (cond (p (meant_entity n)) (Some (meant_entity n)) None)) e ∙ ap (λ c. cond c (Some (meant_entity n)) None) f

  one_again : (k : ReferenceKind) (n : Meant) (m : Meant) (rest : Option Meant) → find p (meant_at k (meant_name n)) ≡ cond (p n) (Some n) None → (rest ≡ Some m → find p (meant_at k (meant_name m)) ≡ Some m) → cond (p n) (Some n) rest ≡ Some m → find p (meant_at k (meant_name m)) ≡ Some m
  one_again k n m rest is later h = go (p n) refl h
    where
      go : (b : Bool) → p n ≡ b → cond b (Some n) rest ≡ Some m → find p (meant_at k (meant_name m)) ≡ Some m
      go true e f = alone k n m (is ∙ ap (λ c. cond c (Some n) None) e) f
      go false e f = later f

  two_again : (n : Name) (m : Meant) (rest : Option Meant) → (rest ≡ Some m → find p (meant_at to_either (meant_name m)) ≡ Some m) → cond (p (meant_common n)) (Some (meant_common n)) (cond (p (meant_entity n)) (Some (meant_entity n)) rest) ≡ Some m → find p (meant_at to_either (meant_name m)) ≡ Some m
  two_again n m rest later h = go (p (meant_common n)) (p (meant_entity n)) refl refl h
    where
      go : (b c : Bool) → p (meant_common n) ≡ b → p (meant_entity n) ≡ c → cond b (Some (meant_common n)) (cond c (Some (meant_entity n)) rest) ≡ Some m → find p (meant_at to_either (meant_name m)) ≡ Some m
      go true c e e2 f = alone to_either (meant_common n) m (either_first n e) f
      go false true e e2 f = alone to_either (meant_entity n) m (either_next n e e2) f
      go false false e e2 f = later f

  pub found_again : (k : ReferenceKind) (ns : List Name) (m : Meant) → find p (flat_map (meant_at k) ns) ≡ Some m → find p (meant_at k (meant_name m)) ≡ Some m
  found_again to_entity [] m h = absurd (cc)
  found_again to_common [] m h = absurd (cc)
  found_again to_either [] m h = absurd (cc)
  found_again to_entity (n ∷ ns) m h = one_again to_entity (meant_entity n) m (find p (flat_map (meant_at to_entity) ns)) refl (found_again to_entity ns m) h
  found_again to_common (n ∷ ns) m h = one_again to_common (meant_common n) m (find p (flat_map (meant_at to_common) ns)) refl (found_again to_common ns m) h
  found_again to_either (n ∷ ns) m h = two_again n m (find p (flat_map (meant_at to_either) ns)) (found_again to_either ns m) h
