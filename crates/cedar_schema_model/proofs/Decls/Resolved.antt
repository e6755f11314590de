-- The schema that well-formed declarations make.
use Rattle.std.proofs.Common.{◌≡◌, ℕ, zero, suc, ◌<◌, ◌≤◌, List, [], ◌∷◌, length, Bool, true, false, not, ◌||◌, map, Option, Some, None, refl, sym, ap, ◌∙◌, subst, inl, inr, arith}
use Rattle.std.specs.Prelude.{Contains, is_some, if◌then◌else◌, find}
use Rattle.std.specs.List.{filter}
use Rattle.std.proofs.lemmas.List.Elements.{Contains-append_left, Contains-append_right}
use Rattle.std.proofs.lemmas.List.Filters.{length-filter_both}
use Rattle.cedar_expr_model.specs.Name.{Name, name_eq}
use Rattle.cedar_expr_model.proofs.Equality.{name_eq-Decides}
use Rattle.cedar_expr_model.proofs.Lists.{contains_cases, contains_none, contains_head, contains_tail, found-Decides, all_each, filter_has, map_has}
use Rattle.cedar_schema_model.specs.Types.{Ty, never, record_type, set_type, is_closed, Attributes}
use Rattle.cedar_schema_model.specs.Descent.{Chain, Reaches}
use Rattle.cedar_schema_model.specs.Reference.{Namespace, Reference, Meant, meant_common, meant_entity}
use Rattle.cedar_schema_model.specs.Declarations.{TypeExpr, bool_expr, long_expr, string_expr, set_expr, record_expr, reference, extension_expr, FieldExprs, no_field_exprs, field_expr, CommonDeclaration, ActionDeclaration, Declarations, common_name, common_names, is_declared, meant, references_in, references_in_fields}
use Rattle.cedar_schema_model.specs.WellFormed.{duplicate_common_type, cycle_of_common_types, context_not_record, refers_to_record, is_record_within, becomes_record, IsWellFormed}
use Rattle.cedar_schema_model.proofs.Named.{defined_by}
use Rattle.cedar_schema_model.specs.Resolved.{with_attribute, type_meant, resolved_by, resolved_fields_by, common_within, common_of, resolved, attributes_of_record, resolved_action}
use Rattle.cedar_schema_model.proofs.Decls.Descent.{reaches_on}
use Rattle.cedar_schema_model.proofs.Decls.Faults.{meant_is_declared, no_schema_fault}
use Rattle.cedar_schema_model.specs.BagLaws.{Uses, HasTwice}

-- Two choices of the common types that agree on those that a written type refers to resolve it to the same.
abbrev pub AgreeOn : (Name → Ty) → (Name → Ty) → Declarations → List Reference → Type 0
AgreeOn f g d rs = (r : Reference) → Contains rs r → (n : Name) → meant d r ≡ Some (meant_common n) → f n ≡ g n

agree_meant : (f g : Name → Ty) (o : Option Meant) → ((n : Name) → o ≡ Some (meant_common n) → f n ≡ g n) → type_meant f o ≡ type_meant g o
agree_meant f g None h = refl
agree_meant f g (Some (meant_common n)) h = h n refl
agree_meant f g (Some (meant_entity n)) h = refl

mutual
  pub same_resolved : (f g : Name → Ty) (d : Declarations) (ns : Namespace) (t : TypeExpr) → AgreeOn f g d (references_in ns t) → resolved_by f d ns t ≡ resolved_by g d ns t
  same_resolved f g d ns bool_expr h = refl
  same_resolved f g d ns long_expr h = refl
  same_resolved f g d ns string_expr h = refl
  same_resolved f g d ns (set_expr t) h = ap set_type (same_resolved f g d ns t h)
  same_resolved f g d ns (record_expr fs) h = ap (λ as_. record_type as_ is_closed) (same_resolved_fields f g d ns fs h)
  same_resolved f g d ns (reference k n) h =
      let r : Reference = record { namespace = ns; kind = k; name = n } in
      agree_meant f g (meant d r) (h r (contains_head r []))
  same_resolved f g d ns (extension_expr n) h = refl

  pub same_resolved_fields : (f g : Name → Ty) (d : Declarations) (ns : Namespace) (fs : FieldExprs) → AgreeOn f g d (references_in_fields ns fs) → resolved_fields_by f d ns fs ≡ resolved_fields_by g d ns fs
  same_resolved_fields f g d ns no_field_exprs h = refl
  same_resolved_fields f g d ns (field_expr a t r fs) h =
      ap (λ u. with_attribute a u r (resolved_fields_by f d ns fs)) (same_resolved f g d ns t (λ x k. h x (Contains-append_left (references_in ns t) (references_in_fields ns fs) x k)))
      ∙ ap (with_attribute a (resolved_by g d ns t) r) (same_resolved_fields f g d ns fs (λ x k. h x (Contains-append_right (references_in ns t) (references_in_fields ns fs) x k)))

-- the declaration of a common type
abbrev pub IsDeclarationOf : Name → List CommonDeclaration → CommonDeclaration → Type 0
IsDeclarationOf n cs c = (n ≡ common_name c) × Contains cs c

common_step : (n : Name) (b : CommonDeclaration) (cs : List CommonDeclaration) (c : CommonDeclaration) (t : Bool) → name_eq n (common_name b) ≡ t → (find (λ (x : CommonDeclaration). name_eq n (common_name x)) cs ≡ Some c → IsDeclarationOf n cs c) → (if t then Some b else find (λ (x : CommonDeclaration). name_eq n (common_name x)) cs) ≡ Some c → IsDeclarationOf n (b ∷ cs) c
common_step n b cs c true e rest h =
    let same : b ≡ c = cc in
    subst (IsDeclarationOf n (b ∷ cs)) same ((name_eq-Decides n (common_name b)).0 e, contains_head b cs)
common_step n b cs c false e rest h = let r = rest h in (r.0, contains_tail b cs c r.1)

pub common_found : (n : Name) (cs : List CommonDeclaration) (c : CommonDeclaration) → find (λ (x : CommonDeclaration). name_eq n (common_name x)) cs ≡ Some c → IsDeclarationOf n cs c
common_found n [] c h = cc
common_found n (b ∷ cs) c h = common_step n b cs c (name_eq n (common_name b)) refl (common_found n cs c) h

found_here : (b : Bool) (x : CommonDeclaration) (rest : Option CommonDeclaration) → b ≡ true → (if b then Some x else rest) ≡ Some x
found_here true x rest e = refl
found_here false x rest e = cc

found_later : (b : Bool) (x : CommonDeclaration) (rest : Option CommonDeclaration) → (b ≡ true → ⊥) → (if b then Some x else rest) ≡ rest
found_later true x rest e = absurd (e refl)
found_later false x rest e = refl

-- where none is declared twice, each is found
pub found_common : (cs : List CommonDeclaration) → (HasTwice (map common_name cs) → ⊥) → (c : CommonDeclaration) → Contains cs c → find (λ (x : CommonDeclaration). name_eq (common_name c) (common_name x)) cs ≡ Some c
found_common [] once c h = absurd (contains_none c h)
found_common (b ∷ cs) once c h =
    contains_cases (find (λ (x : CommonDeclaration). name_eq (common_name c) (common_name x)) (b ∷ cs) ≡ Some c) b cs c h
    (λ e. found_here (name_eq (common_name c) (common_name b)) b (find (λ (x : CommonDeclaration). name_eq (common_name c) (common_name x)) cs) ((name_eq-Decides (common_name c) (common_name b)).1 (ap common_name (sym e))) ∙ ap Some e)
    (λ k. found_later (name_eq (common_name c) (common_name b)) b (find (λ (x : CommonDeclaration). name_eq (common_name c) (common_name x)) cs)
    (λ e. once (inl (subst (Contains (map common_name cs)) ((name_eq-Decides (common_name c) (common_name b)).0 e) (map_has common_name cs c k))))
    ∙ found_common cs (λ t. once (inr t)) c k)

-- a name that is declared is found
some_step : (n : Name) (b : CommonDeclaration) (cs : List CommonDeclaration) (t : Bool) → name_eq n (common_name b) ≡ t → (Contains (map common_name cs) n → is_some (find (λ (x : CommonDeclaration). name_eq n (common_name x)) cs) ≡ true) → Contains (map common_name (b ∷ cs)) n → is_some (if t then Some b else find (λ (x : CommonDeclaration). name_eq n (common_name x)) cs) ≡ true
some_step n b cs true e rest h = refl
some_step n b cs false e rest h =
    contains_cases (is_some (find (λ (x : CommonDeclaration). name_eq n (common_name x)) cs) ≡ true) (common_name b) (map common_name cs) n h
    (λ k. let f = (name_eq-Decides n (common_name b)).1 (sym k) in cc)
    rest

pub some_common : (n : Name) (cs : List CommonDeclaration) → Contains (map common_name cs) n → is_some (find (λ (x : CommonDeclaration). name_eq n (common_name x)) cs) ≡ true
some_common n [] h = absurd (contains_none n h)
some_common n (b ∷ cs) h = some_step n b cs (name_eq n (common_name b)) refl (some_common n cs) h

-- names that are left when one is taken away
abbrev others : Name → List Name → List Name
others n ns = filter (λ m. not (name_eq m n)) ns

fewer : (n : Name) (ns : List Name) → Contains ns n → length (others n ns) < length ns
fewer n ns h =
    let k = filter_has (λ m. name_eq m n) ns n h ((name_eq-Decides n n).1 refl) in
    let p = k.1 in
    let e = length-filter_both (λ m. name_eq m n) (λ m. not (name_eq m n)) (λ m. refl) ns in
    omega (arith, p, e)

not_true : (b : Bool) → (b ≡ true → ⊥) → not b ≡ true
not_true true h = absurd (h refl)
not_true false h = refl

among_others : (n : Name) (ns : List Name) (m : Name) → Contains ns m → (m ≡ n → ⊥) → Contains (others n ns) m
among_others n ns m h k = filter_has (λ x. not (name_eq x n)) ns m h (not_true (name_eq m n) (λ e. k ((name_eq-Decides m n).0 e)))

-- Without cycles, what is replaced as often as there are names is replaced for good.
abbrev pub IsAcyclic : Declarations → Type 0
IsAcyclic d = (n : Name) → Reaches (Uses d) n n → ⊥

-- the name, and all that it uses, directly or not, are among these
abbrev pub StaysIn : Declarations → List Name → Name → Type 0
StaysIn d ns n = Contains ns n × ((m : Name) → Reaches (Uses d) n m → Contains ns m)

stays_on : (d : Declarations) → IsAcyclic d → (ns : List Name) (n m : Name) → StaysIn d ns n → Uses d n m → StaysIn d (others n ns) m
stays_on d acyclic ns n m s u =
    let step : Reaches (Uses d) n m = ([], u) in (
      among_others n ns m (s.1 m step) (λ e. acyclic n (subst (Reaches (Uses d) n) e step)),
      λ k r. let on : Reaches (Uses d) n k = reaches_on (Uses d) n m k step r in
          among_others n ns k (s.1 k on) (λ e. acyclic n (subst (Reaches (Uses d) n) e on)),
    )

uses_of : (d : Declarations) (n : Name) (c : CommonDeclaration) → IsDeclarationOf n d.commons c → (r : Reference) → Contains (references_in c.namespace c.definition) r → (m : Name) → meant d r ≡ Some (meant_common m) → Uses d n m
uses_of d n c h r k m e = (c, h.1, h.0, (r, k, e))

stable_step : (d : Declarations) (n : Name) (f g : Name → Ty) (o : Option CommonDeclaration) → find (λ (x : CommonDeclaration). name_eq n (common_name x)) d.commons ≡ o → ((m : Name) → Uses d n m → f m ≡ g m) → defined_by f d o ≡ defined_by g d o
stable_step d n f g None e h = refl
stable_step d n f g (Some c) e h = same_resolved f g d c.namespace c.definition (λ r k m x. h m (uses_of d n c (common_found n d.commons c e) r k m x))

none_left : (ns : List Name) → length ns ≤ 0 → (n : Name) → Contains ns n → ⊥
none_left ns l n h = let p = h.1 in omega (arith, p, l)

pub stable : (d : Declarations) → IsAcyclic d → (k : ℕ) (ns : List Name) → length ns ≤ k → (n : Name) → StaysIn d ns n → common_within (suc k) d n ≡ common_within k d n
stable d acyclic zero ns l n s = absurd (none_left ns l n s.0)
stable d acyclic (suc k) ns l n s =
    stable_step d n (common_within (suc k) d) (common_within k d) (find (λ (x : CommonDeclaration). name_eq n (common_name x)) d.commons) refl
    (λ m u. stable d acyclic k (others n ns) (let p = fewer n ns s.0 in omega (arith, p, l)) m (stays_on d acyclic ns n m s u))

-- what is used is declared
used_declared : (d : Declarations) (n : Name) (zs : List Name) (m : Name) → Chain (Uses d) n zs m → Contains (common_names d) m
used_declared d n [] m h = (found-Decides name_eq name_eq-Decides m (common_names d)).0 (meant_is_declared d h.3.0 (meant_common m) h.3.2)
used_declared d n (z ∷ zs) m h = used_declared d z zs m h.1

length_map : {X Y : Type 0} (f : X → Y) (xs : List X) → length (map f xs) ≡ length xs
length_map f [] = refl
length_map f (x ∷ xs) = ap suc (length_map f xs)

declared_stable : (d : Declarations) → IsAcyclic d → (n : Name) → Contains (common_names d) n → common_within (suc (length d.commons)) d n ≡ common_of d n
declared_stable d acyclic n h =
    stable d acyclic (length d.commons) (common_names d) (let e = length_map common_name d.commons in omega (arith, e)) n (h, λ m r. used_declared d n r.0 m r.1)

undeclared_never : (k : ℕ) (d : Declarations) (n : Name) → find (λ (x : CommonDeclaration). name_eq n (common_name x)) d.commons ≡ None → common_within k d n ≡ never
undeclared_never zero d n e = refl
undeclared_never (suc k) d n e = ap (defined_by (common_within k d) d) e

once_more : (d : Declarations) → IsAcyclic d → (n : Name) (o : Option CommonDeclaration) → find (λ (x : CommonDeclaration). name_eq n (common_name x)) d.commons ≡ o → common_within (suc (length d.commons)) d n ≡ common_of d n
once_more d acyclic n None e = undeclared_never (suc (length d.commons)) d n e ∙ sym (undeclared_never (length d.commons) d n e)
once_more d acyclic n (Some c) e =
    let k = common_found n d.commons c e in
    declared_stable d acyclic n (subst (Contains (common_names d)) (sym k.0) (map_has common_name d.commons c k.1))

acyclic_where : (x : List Name) (d : Declarations) → IsWellFormed x d → IsAcyclic d
acyclic_where x d w n r = no_schema_fault x d w cycle_of_common_types (5, omega arith, refl) (n, r)

pub no_more : (x : List Name) (d : Declarations) → IsWellFormed x d → (n : Name) → common_within (suc (length d.commons)) d n ≡ common_of d n
no_more x d w n = once_more d (acyclic_where x d w) n (find (λ (x : CommonDeclaration). name_eq n (common_name x)) d.commons) refl

pub defined : (x : List Name) (d : Declarations) → IsWellFormed x d → (c : CommonDeclaration) → Contains d.commons c → common_of d (common_name c) ≡ resolved d c.namespace c.definition
defined x d w c h =
    sym (no_more x d w (common_name c)) ∙ ap (defined_by (common_of d) d) (found_common d.commons (no_schema_fault x d w duplicate_common_type (1, omega arith, refl)) c h)

-- contexts
test_of_name : (b t : Bool) → (not b || t) ≡ true → b ≡ true → t ≡ true
test_of_name true t h e = h
test_of_name false t h e = cc

abbrev IsRecordType : Ty → Type 0
IsRecordType t = (as_ : Attributes) × (t ≡ record_type as_ is_closed)

mutual_of_name : (d : Declarations) (test : CommonDeclaration → Bool) (f : Name → Ty) (n : Name) → refers_to_record test d (Some (meant_common n)) ≡ true → ((c : CommonDeclaration) → test c ≡ true → IsRecordType (resolved_by f d c.namespace c.definition)) → (o : Option CommonDeclaration) → find (λ (x : CommonDeclaration). name_eq n (common_name x)) d.commons ≡ o → is_some o ≡ true → IsRecordType (defined_by f d o)
mutual_of_name d test f n h each None e s = cc
mutual_of_name d test f n h each (Some c) e s =
    let k = common_found n d.commons c e in
    each c (test_of_name (name_eq n (common_name c)) (test c) (all_each (λ x. not (name_eq n (common_name x)) || test x) d.commons h c k.1) ((name_eq-Decides n (common_name c)).1 k.0))

meant_record : (d : Declarations) (k : ℕ) → ((ns : Namespace) (t : TypeExpr) → is_record_within k d ns t ≡ true → IsRecordType (resolved_by (common_within k d) d ns t)) → (o : Option Meant) → ((m : Meant) → o ≡ Some m → is_declared d m ≡ true) → refers_to_record (λ c. is_record_within k d c.namespace c.definition) d o ≡ true → IsRecordType (type_meant (common_within (suc k) d) o)
meant_record d k each None declared h = cc
meant_record d k each (Some (meant_entity n)) declared h = cc
meant_record d k each (Some (meant_common n)) declared h =
    mutual_of_name d (λ c. is_record_within k d c.namespace c.definition) (common_within k d) n h (λ c t. each c.namespace c.definition t) (find (λ (x : CommonDeclaration). name_eq n (common_name x)) d.commons) refl
    (some_common n d.commons ((found-Decides name_eq name_eq-Decides n (common_names d)).0 (declared (meant_common n) refl)))

pub record_resolved : (d : Declarations) (k : ℕ) (ns : Namespace) (t : TypeExpr) → is_record_within k d ns t ≡ true → IsRecordType (resolved_by (common_within k d) d ns t)
record_resolved d zero ns (record_expr fs) h = (resolved_fields_by (common_within zero d) d ns fs, refl)
record_resolved d zero ns bool_expr h = cc
record_resolved d zero ns long_expr h = cc
record_resolved d zero ns string_expr h = cc
record_resolved d zero ns (set_expr t) h = cc
record_resolved d zero ns (reference k n) h = cc
record_resolved d zero ns (extension_expr n) h = cc
record_resolved d (suc m) ns (record_expr fs) h = (resolved_fields_by (common_within (suc m) d) d ns fs, refl)
record_resolved d (suc m) ns bool_expr h = cc
record_resolved d (suc m) ns long_expr h = cc
record_resolved d (suc m) ns string_expr h = cc
record_resolved d (suc m) ns (set_expr t) h = cc
record_resolved d (suc m) ns (reference k n) h =
    let r : Reference = record { namespace = ns; kind = k; name = n } in
    meant_record d m (record_resolved d m) (meant d r) (λ x e. meant_is_declared d r x e) h
record_resolved d (suc m) ns (extension_expr n) h = cc

is_true : (b : Bool) → (b ≡ false → ⊥) → b ≡ true
is_true true h = refl
is_true false h = absurd (h refl)

pub contexts : (x : List Name) (d : Declarations) → IsWellFormed x d → (a : ActionDeclaration) → Contains d.actions a → resolved d a.namespace a.context ≡ record_type (resolved_action d a).context is_closed
contexts x d w a h =
    let k = record_resolved d (length d.commons) a.namespace a.context (is_true (becomes_record d a) (λ e. no_schema_fault x d w context_not_record (8, omega arith, refl) (a, h, e))) in
    k.1 ∙ ap (λ t. record_type (attributes_of_record t) is_closed) (sym k.1)
