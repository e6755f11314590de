-- Types that solve the declarations are those of the schema.
use Rattle.std.proofs.Common.{◌≡◌, ℕ, zero, suc, ◌<◌, ◌≤◌, List, [], ◌∷◌, length, Bool, true, false, not, map, Option, Some, None, refl, sym, ap, ◌∙◌, subst, arith}
use Rattle.std.specs.Prelude.{Contains, is_some, find}
use Rattle.std.specs.List.{filter}
use Rattle.std.proofs.lemmas.List.Filters.{length-filter_both}
use Rattle.cedar_expr_model.specs.Name.{Name, name_eq}
use Rattle.cedar_expr_model.proofs.Equality.{name_eq-Decides}
use Rattle.cedar_expr_model.proofs.Lists.{found-Decides, filter_has, map_has}
use Rattle.cedar_schema_model.specs.Types.{Ty, never}
use Rattle.cedar_schema_model.specs.BagLaws.{Uses}
use Rattle.cedar_schema_model.specs.Declarations.{CommonDeclaration, Declarations, common_name, common_names}
use Rattle.cedar_schema_model.specs.Descent.{Chain, Reaches}
use Rattle.cedar_schema_model.specs.Reference.{meant_common}
use Rattle.cedar_schema_model.specs.Resolved.{common_within, common_of}
use Rattle.cedar_schema_model.proofs.Named.{defined_by}
use Rattle.cedar_schema_model.proofs.Decls.Descent.{reaches_on}
use Rattle.cedar_schema_model.proofs.Decls.Faults.{meant_is_declared}
use Rattle.cedar_schema_model.proofs.Decls.Resolved.{IsAcyclic, StaysIn, same_resolved, common_found, some_common}
use Rattle.cedar_schema_model.specs.Solutions.{IsSolution}

-- the declaration of a name among these
abbrev declared_as : Name → List CommonDeclaration → Option CommonDeclaration
declared_as n cs = find (λ (x : CommonDeclaration). name_eq n (common_name x)) cs

-- a solution is what is declared
unfound : (cs : List CommonDeclaration) (n : Name) → declared_as n cs ≡ None → Contains (map common_name cs) n → ⊥
unfound cs n e h = let s = some_common n cs h in let f : false ≡ true = sym (ap is_some e) ∙ s in cc

own : (d : Declarations) (types : Name → Ty) → IsSolution d types → (n : Name) (o : Option CommonDeclaration) → declared_as n d.commons ≡ o → types n ≡ defined_by types d o
own d types s n None e = s.others n (unfound d.commons n e)
own d types s n (Some c) e = let k = common_found n d.commons c e in ap types k.0 ∙ s.each c k.1

-- with the same types for all that it uses
alike : (d : Declarations) (n : Name) (f g : Name → Ty) → ((m : Name) → Uses d n m → f m ≡ g m) → (o : Option CommonDeclaration) → declared_as n d.commons ≡ o → defined_by f d o ≡ defined_by g d o
alike d n f g h None e = refl
alike d n f g h (Some c) e = let k = common_found n d.commons c e in same_resolved f g d c.namespace c.definition (λ r i m x. h m (c, k.1, k.0, (r, i, x)))

-- without the name itself there are fewer
abbrev but : Name → List Name → List Name
but n ns = filter (λ m. not (name_eq m n)) ns

is_another : (b : Bool) → (b ≡ true → ⊥) → not b ≡ true
is_another true h = absurd (h refl)
is_another false h = refl

shorter : (n : Name) (ns : List Name) → Contains ns n → length (but n ns) < length ns
shorter n ns h =
    let p = (filter_has (λ m. name_eq m n) ns n h ((name_eq-Decides n n).1 refl)).1 in
    let e = length-filter_both (λ m. name_eq m n) (λ m. not (name_eq m n)) (λ m. refl) ns in
    omega (arith, p, e)

stays : (d : Declarations) → IsAcyclic d → (ns : List Name) (n m : Name) → StaysIn d ns n → Uses d n m → StaysIn d (but n ns) m
stays d acyclic ns n m s u =
    let kept : (k : Name) → Reaches (Uses d) n k → Contains (but n ns) k = λ k r. filter_has (λ x. not (name_eq x n)) ns k (s.1 k r) (is_another (name_eq k n) (λ e. acyclic n (subst (Reaches (Uses d) n) ((name_eq-Decides k n).0 e) r))) in
    (kept m ([], u), λ k r. kept k (reaches_on (Uses d) n m k ([], u) r))

within : (d : Declarations) → IsAcyclic d → (types : Name → Ty) → IsSolution d types → (k : ℕ) (ns : List Name) → length ns ≤ k → (n : Name) → StaysIn d ns n → types n ≡ common_within k d n
within d acyclic types s zero ns l n h = let p = h.0.1 in absurd (omega (arith, p, l))
within d acyclic types s (suc k) ns l n h =
    own d types s n (declared_as n d.commons) refl
    ∙ alike d n types (common_within k d) (λ m u. within d acyclic types s k (but n ns) (let p = shorter n ns h.0 in omega (arith, p, l)) m (stays d acyclic ns n m h u)) (declared_as n d.commons) refl

-- what is used is declared
used : (d : Declarations) (n m : Name) → Uses d n m → Contains (common_names d) m
used d n m u = (found-Decides name_eq name_eq-Decides m (common_names d)).0 (meant_is_declared d u.3.0 (meant_common m) u.3.2)

last_used : (d : Declarations) (n : Name) (zs : List Name) (m : Name) → Chain (Uses d) n zs m → Contains (common_names d) m
last_used d n [] m h = used d n m h
last_used d n (z ∷ zs) m h = last_used d z zs m h.1

as_many : (cs : List CommonDeclaration) → length (map common_name cs) ≡ length cs
as_many [] = refl
as_many (c ∷ cs) = ap suc (as_many cs)

undeclared : (k : ℕ) (d : Declarations) (n : Name) → declared_as n d.commons ≡ None → common_within k d n ≡ never
undeclared zero d n e = refl
undeclared (suc k) d n e = ap (defined_by (common_within k d) d) e

at_name : (d : Declarations) → IsAcyclic d → (types : Name → Ty) → IsSolution d types → (n : Name) (o : Option CommonDeclaration) → declared_as n d.commons ≡ o → types n ≡ common_of d n
at_name d acyclic types s n None e = own d types s n None e ∙ sym (undeclared (length d.commons) d n e)
at_name d acyclic types s n (Some c) e =
    let k = common_found n d.commons c e in
    within d acyclic types s (length d.commons) (common_names d) (let a = as_many d.commons in omega (arith, a)) n
    (subst (Contains (common_names d)) (sym k.0) (map_has common_name d.commons c k.1), λ m r. last_used d n r.0 m r.1)

pub solutions : (d : Declarations) → IsAcyclic d → (types : Name → Ty) → IsSolution d types → (n : Name) → types n ≡ common_of d n
solutions d acyclic types s n = at_name d acyclic types s n (declared_as n d.commons) refl
