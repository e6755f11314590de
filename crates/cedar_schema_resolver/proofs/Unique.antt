-- Without cycles there is one solution.
use Rattle.std.proofs.Common.{◌≡◌, ℕ, zero, suc, ◌<◌, ◌≤◌, List, [], ◌∷◌, length, Bool, true, false, not, Option, Some, None, find, refl, sym, ap, ◌∙◌, subst, arith}
use Rattle.std.specs.Prelude.{Contains}
use Rattle.std.specs.List.{filter}
use Rattle.std.proofs.lemmas.List.{length-map}
use Rattle.std.proofs.lemmas.List.Filters.{length-filter_both}
use Rattle.cedar_expr_model.specs.Name.{Name, name_eq}
use Rattle.cedar_expr_model.proofs.Equality.{name_eq-Decides}
use Rattle.cedar_expr_model.proofs.Lists.{found-Decides, filter_has, map_has}
use Rattle.cedar_schema_model.specs.BagLaws.{Uses}
use Rattle.cedar_schema_model.specs.Declarations.{CommonDeclaration, Declarations, common_name, common_names}
use Rattle.cedar_schema_model.specs.Descent.{Chain, Reaches}
use Rattle.cedar_schema_model.specs.Reference.{meant_common}
use Rattle.cedar_schema_model.specs.Resolved.{common_within, common_of}
use Rattle.cedar_schema_model.specs.Types.{Ty, never}
use Rattle.cedar_schema_model.proofs.Named.{defined_by}
use Rattle.cedar_schema_model.proofs.Decls.Descent.{reaches_on}
use Rattle.cedar_schema_model.proofs.Decls.Faults.{meant_is_declared}
use Rattle.cedar_schema_model.proofs.Decls.Resolved.{IsAcyclic, StaysIn, same_resolved, common_found}

-- names that are left when one is taken away
abbrev others : Name → List Name → List Name
others n ns = filter (λ m. not (name_eq m n)) ns

fewer : (n : Name) (ns : List Name) → Contains ns n → length (others n ns) < length ns
fewer n ns h =
    let k = filter_has (λ m. name_eq m n) ns n h ((name_eq-Decides n n).1 refl) in
    let p = k.1 in
    let e = length-filter_both (λ m. name_eq m n) (λ m. not (name_eq m n)) (λ m. refl) ns in
    omega (arith, p, e)

not_true : (b : Bool) → (b ≡ true → ⊥) → not b ≡ true
not_true true h = absurd (h refl)
not_true false h = refl

among_others : (n : Name) (ns : List Name) (m : Name) → Contains ns m → (m ≡ n → ⊥) → Contains (others n ns) m
among_others n ns m h k = filter_has (λ x. not (name_eq x n)) ns m h (not_true (name_eq m n) (λ e. k ((name_eq-Decides m n).0 e)))

stays_on : (e : Declarations) → IsAcyclic e → (ns : List Name) (n m : Name) → StaysIn e ns n → Uses e n m → StaysIn e (others n ns) m
stays_on e acyclic ns n m s u =
    let step : Reaches (Uses e) n m = ([], u) in (
      among_others n ns m (s.1 m step) (λ q. acyclic n (subst (Reaches (Uses e) n) q step)),
      λ k r. let on : Reaches (Uses e) n k = reaches_on (Uses e) n m k step r in
          among_others n ns k (s.1 k on) (λ q. acyclic n (subst (Reaches (Uses e) n) q on)),
    )

none_left : (ns : List Name) → length ns ≤ 0 → (n : Name) → Contains ns n → ⊥
none_left ns l n h = let p = h.1 in omega (arith, p, l)

-- the declaration of a name
abbrev pub declaration : Declarations → Name → Option CommonDeclaration
declaration e n = find (λ (c : CommonDeclaration). name_eq n (common_name c)) e.commons

step : (e : Declarations) (n : Name) (f g : Name → Ty) (o : Option CommonDeclaration) → declaration e n ≡ o → ((m : Name) → Uses e n m → f m ≡ g m) → defined_by f e o ≡ defined_by g e o
step e n f g None q h = refl
step e n f g (Some c) q h =
    let k = common_found n e.commons c q in
    same_resolved f g e c.namespace c.definition (λ r i m j. h m (c, k.1, k.0, (r, i, j)))

used_declared : (e : Declarations) (n : Name) (zs : List Name) (m : Name) → Chain (Uses e) n zs m → Contains (common_names e) m
used_declared e n [] m h = (found-Decides name_eq name_eq-Decides m (common_names e)).0 (meant_is_declared e h.3.0 (meant_common m) h.3.2)
used_declared e n (z ∷ zs) m h = used_declared e z zs m h.1

undeclared_never : (k : ℕ) (e : Declarations) (n : Name) → declaration e n ≡ None → common_within k e n ≡ never
undeclared_never zero e n q = refl
undeclared_never (suc k) e n q = ap (defined_by (common_within k e) e) q

-- What gives each name the type that its declaration defines is what the declarations say.
module _ (e : Declarations) (acyclic : IsAcyclic e) (f : Name → Ty) (fixed : (n : Name) → f n ≡ defined_by f e (declaration e n)) where
  solved_within : (k : ℕ) (ns : List Name) → length ns ≤ k → (n : Name) → StaysIn e ns n → common_within k e n ≡ f n
  solved_within zero ns l n s = absurd (none_left ns l n s.0)
  solved_within (suc k) ns l n s =
      step e n (common_within k e) f (declaration e n) refl
      (λ m u. solved_within k (others n ns) (let p = fewer n ns s.0 in omega (arith, p, l)) m (stays_on e acyclic ns n m s u))
      ∙ sym (fixed n)

  at_last : (n : Name) (o : Option CommonDeclaration) → declaration e n ≡ o → f n ≡ common_of e n
  at_last n None q = fixed n ∙ ap (defined_by f e) q ∙ sym (undeclared_never (length e.commons) e n q)
  at_last n (Some c) q =
      let k = common_found n e.commons c q in
      let h = subst (Contains (common_names e)) (sym k.0) (map_has common_name e.commons c k.1) in
      sym (solved_within (length e.commons) (common_names e) (let l = length-map e.commons common_name in omega (arith, l)) n (h, λ m r. used_declared e n r.0 m r.1))

  pub is_common : (n : Name) → f n ≡ common_of e n
  is_common n = at_last n (declaration e n) refl
