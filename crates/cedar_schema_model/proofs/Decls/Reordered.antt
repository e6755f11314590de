-- The order of declarations, and how they are split into fragments, hides no fault.
use Rattle.std.proofs.Common.{◌≡◌, ◌↔◌, ℕ, zero, suc, List, [], ◌∷◌, ◌++◌, length, Bool, true, false, not, ◌||◌, map, Option, Some, None, refl, sym, ap, ◌∙◌, subst, inl, inr, ⊎_elim}
use Rattle.std.specs.Prelude.{Contains, if◌then◌else◌, find}
use Rattle.std.specs.Bool.{Decides}
use Rattle.std.specs.List.{list_any, list_all, flat_map, IsDistinct}
use Rattle.std.specs.List.Sorted.{IsPermutation}
use Rattle.std.specs.List as lists
use Rattle.std.proofs.lemmas.List.Sorted.{IsPermutation-sym, IsPermutation-map, IsPermutation-trans, IsPermutation-append_left, IsPermutation-append_right, IsPermutation-append_comm, Contains-permutation, length_permutation, list_any-IsPermutation}
use Rattle.std.proofs.lemmas.List.Elements.{Contains-append_left, Contains-append_right, Contains-append_cases}
use Rattle.std.proofs.lemmas.List.Concat.{flat_map-cons}
use Rattle.std.proofs.lemmas.Grind.{flat_map-append}
use Rattle.std.proofs.lemmas.List.{append-nil, append_assoc}
use Rattle.std.proofs.lemmas.Map.Keys.{IsDistinct-head, IsDistinct-tail, IsDistinct-IsPermutation}
use Rattle.cedar_expr_model.specs.Name.{Name, name_eq}
use Rattle.cedar_expr_model.specs.Uid.{Uid, uid_eq}
use Rattle.cedar_expr_model.proofs.Equality.{name_eq-Decides, uid_eq-Decides}
use Rattle.cedar_expr_model.proofs.Lists.{contains_cases, contains_none, all_each, all_from, map_has, map_from, flat_has, flat_from}
use Rattle.cedar_schema_model.specs.Descent.{Chain, Reaches}
use Rattle.cedar_schema_model.specs.Reference.{Namespace, ReferenceKind, Reference, Meant, meant_common, meant_entity, candidates, action_candidates}
use Rattle.cedar_schema_model.specs.Declarations.{TypeExpr, bool_expr, long_expr, string_expr, set_expr, record_expr, reference, extension_expr, CommonDeclaration, ActionDeclaration, Declarations, bag, common_name, entity_name, action_uid, common_names, entity_names, action_uids, is_declared, is_declared_action, meant, parent_meant, extensions_in, types_in, references_of_common, references_of_entity, references_of_action, references, extensions}
use Rattle.cedar_schema_model.specs.WellFormed.{SchemaFault, duplicate_entity_type, duplicate_common_type, duplicate_action, undeclared_type, undeclared_action, cycle_of_common_types, cycle_of_actions, action_as_entity_type, context_not_record, reserved_name, shadowing, unknown_extension_type, unresolved_external, refers_to_record, is_written_record, is_record_within, becomes_record, written_names, unqualified_uid, declared_types}
use Rattle.cedar_schema_model.specs.BagLaws.{IsReordered, Uses, HasParentAction, HasSchemaFault, HasTwice}
use Rattle.cedar_schema_model.proofs.Decls.Faults.{has_twice-Decides, has_twice}
use Rattle.cedar_expr_model.specs.Names.{unqualified}

-- all members of the first are members of the second
abbrev pub Within : {X : Type 0} → List X → List X → Type 0
Within {X} xs ys = (x : X) → Contains xs x → Contains ys x

pub within_map : {X Y : Type 0} (f : X → Y) (xs ys : List X) → Within xs ys → Within (map f xs) (map f ys)
within_map f xs ys w y h = let r = map_from f xs y h in subst (Contains (map f ys)) r.2 (map_has f ys r.0 (w r.0 r.1))

pub within_flat : {X Y : Type 0} (f : X → List Y) (xs ys : List X) → Within xs ys → Within (flat_map f xs) (flat_map f ys)
within_flat f xs ys w y h = let r = flat_from f xs y h in flat_has f ys r.0 y (w r.0 r.1) r.2

pub within_append : {X : Type 0} (as_ bs xs ys : List X) → Within as_ xs → Within bs ys → Within (as_ ++ bs) (xs ++ ys)
within_append as_ bs xs ys v w x h = ⊎_elim (λ k. Contains-append_left xs ys x (v x k)) (λ k. Contains-append_right xs ys x (w x k)) (Contains-append_cases as_ bs x h)

pub reordered_back : (d e : Declarations) → IsReordered d e → IsReordered e d
reordered_back d e m = record { commons = IsPermutation-sym d.commons e.commons m.commons; entities = IsPermutation-sym d.entities e.entities m.entities; actions = IsPermutation-sym d.actions e.actions m.actions }

pub reordered_on : (c d e : Declarations) → IsReordered c d → IsReordered d e → IsReordered c e
reordered_on c d e m n = record {
  commons = IsPermutation-trans c.commons d.commons e.commons m.commons n.commons;
  entities = IsPermutation-trans c.entities d.entities e.entities m.entities n.entities;
  actions = IsPermutation-trans c.actions d.actions e.actions m.actions n.actions;
}

module _ (d e : Declarations) (m : IsReordered d e) where
  pub commons_within : Within d.commons e.commons
  commons_within c h = Contains-permutation d.commons e.commons c m.commons h

  pub entities_within : Within d.entities e.entities
  entities_within t h = Contains-permutation d.entities e.entities t m.entities h

  pub actions_within : Within d.actions e.actions
  actions_within a h = Contains-permutation d.actions e.actions a m.actions h

  pub same_declared : (x : Meant) → is_declared d x ≡ is_declared e x
  same_declared (meant_common n) = list_any-IsPermutation (name_eq n) (common_names d) (common_names e) (IsPermutation-map common_name d.commons e.commons m.commons)
  same_declared (meant_entity n) = list_any-IsPermutation (name_eq n) (entity_names d) (entity_names e) (IsPermutation-map entity_name d.entities e.entities m.entities)

  pub same_declared_action : (u : Uid) → is_declared_action d u ≡ is_declared_action e u
  same_declared_action u = list_any-IsPermutation (uid_eq u) (action_uids d) (action_uids e) (IsPermutation-map action_uid d.actions e.actions m.actions)

pub first_agree : {X : Type 0} (p q : X → Bool) → ((x : X) → p x ≡ q x) → (xs : List X) → find p xs ≡ find q xs
first_agree p q e [] = refl
first_agree {X} p q e (x ∷ xs) =
    ap (λ (b : Bool). if b then Some x else find p xs) (e x) ∙ ap (λ (o : Option X). if q x then Some x else o) (first_agree p q e xs)

-- a step that is one of the other kind too
pub chain_along : {X : Type 0} (step go : X → X → Type 0) → ((x y : X) → step x y → go x y) → (x : X) (zs : List X) (y : X) → Chain step x zs y → Chain go x zs y
chain_along step go f x [] y c = f x y c
chain_along step go f x (z ∷ zs) y c = (f x z c.0, chain_along step go f z zs y c.1)

pub reaches_along : {X : Type 0} (step go : X → X → Type 0) → ((x y : X) → step x y → go x y) → (x y : X) → Reaches step x y → Reaches go x y
reaches_along step go f x y h = (h.0, chain_along step go f x h.0 y h.1)

-- two tests that agree, over lists that are the same in another order
pub all_agree : {X : Type 0} (p q : X → Bool) → ((x : X) → p x ≡ q x) → (xs : List X) → list_all p xs ≡ list_all q xs
all_agree p q e [] = refl
all_agree p q e (x ∷ xs) = let a = e x in let b = all_agree p q e xs in cc

same_truth : (a b : Bool) → (a ≡ true → b ≡ true) → (b ≡ true → a ≡ true) → a ≡ b
same_truth true b f g = sym (f refl)
same_truth false true f g = g refl
same_truth false false f g = refl

all_moved : {X : Type 0} (p : X → Bool) (xs ys : List X) → IsPermutation xs ys → list_all p xs ≡ true → list_all p ys ≡ true
all_moved p xs ys m h = all_from p ys (λ x k. all_each p xs h x (Contains-permutation ys xs x (IsPermutation-sym xs ys m) k))

pub all_reordered : {X : Type 0} (p : X → Bool) (xs ys : List X) → IsPermutation xs ys → list_all p xs ≡ list_all p ys
all_reordered p xs ys m = same_truth (list_all p xs) (list_all p ys) (all_moved p xs ys m) (all_moved p ys xs (IsPermutation-sym xs ys m))

same_written : (f g : Namespace → ReferenceKind → Name → Bool) → ((ns : Namespace) (k : ReferenceKind) (n : Name) → f ns k n ≡ g ns k n) → (ns : Namespace) (t : TypeExpr) → is_written_record f ns t ≡ is_written_record g ns t
same_written f g e ns bool_expr = refl
same_written f g e ns long_expr = refl
same_written f g e ns string_expr = refl
same_written f g e ns (set_expr t) = refl
same_written f g e ns (record_expr fs) = refl
same_written f g e ns (reference k n) = e ns k n
same_written f g e ns (extension_expr n) = refl

module _ (d e : Declarations) (m : IsReordered d e) where
  pub same_meant : (r : Reference) → meant d r ≡ meant e r
  same_meant r = first_agree (is_declared d) (is_declared e) (same_declared d e m) (candidates r)

  pub same_parent : (ns : Namespace) (u : Uid) → parent_meant d ns u ≡ parent_meant e ns u
  same_parent ns u = first_agree (is_declared_action d) (is_declared_action e) (same_declared_action d e m) (action_candidates ns u)

  pub references_within : Within (references d) (references e)
  references_within =
      within_append (flat_map references_of_common d.commons) _ (flat_map references_of_common e.commons) _
      (within_flat references_of_common d.commons e.commons (commons_within d e m))
      (within_append (flat_map references_of_entity d.entities) _ (flat_map references_of_entity e.entities) _
      (within_flat references_of_entity d.entities e.entities (entities_within d e m))
      (within_flat references_of_action d.actions e.actions (actions_within d e m)))

  pub extensions_within : Within (extensions d) (extensions e)
  extensions_within =
      within_append (flat_map (λ c. extensions_in c.definition) d.commons) _ (flat_map (λ c. extensions_in c.definition) e.commons) _
      (within_flat (λ c. extensions_in c.definition) d.commons e.commons (commons_within d e m))
      (within_append (flat_map (λ t. flat_map extensions_in (types_in t.kind)) d.entities) _ (flat_map (λ t. flat_map extensions_in (types_in t.kind)) e.entities) _
      (within_flat (λ t. flat_map extensions_in (types_in t.kind)) d.entities e.entities (entities_within d e m))
      (within_flat (λ a. extensions_in a.context) d.actions e.actions (actions_within d e m)))

  commons_named : Within (common_names d) (common_names e)
  commons_named = within_map common_name d.commons e.commons (commons_within d e m)

  entities_named : Within (entity_names d) (entity_names e)
  entities_named = within_map entity_name d.entities e.entities (entities_within d e m)

  pub actions_named : Within (action_uids d) (action_uids e)
  actions_named = within_map action_uid d.actions e.actions (actions_within d e m)

  pub types_named : Within (declared_types d) (declared_types e)
  types_named = within_append (common_names d) (entity_names d) (common_names e) (entity_names e) commons_named entities_named

  pub names_within : Within (written_names d) (written_names e)
  names_within =
      within_append (common_names d) _ (common_names e) _ commons_named
      (within_append (entity_names d) _ (entity_names e) _ entities_named
      (within_append (map (λ u. u.kind) (action_uids d)) _ (map (λ u. u.kind) (action_uids e)) _ (within_map (λ u. u.kind) (action_uids d) (action_uids e) actions_named)
      (within_append (map (λ r. r.name) (references d)) _ (map (λ r. r.name) (references e)) _ (within_map (λ r. r.name) (references d) (references e) references_within)
      (within_append (extensions d) _ (extensions e) _ extensions_within
      (within_flat (λ a. map (λ u. u.kind) a.parents) d.actions e.actions (actions_within d e m))))))

  pub uses_along : (x y : Name) → Uses d x y → Uses e x y
  uses_along x y h = (h.0, commons_within d e m h.0 h.1, h.2, (h.3.0, h.3.1, sym (same_meant h.3.0) ∙ h.3.2))

  pub parents_along : (u v : Uid) → HasParentAction d u v → HasParentAction e u v
  parents_along u v h = (h.0, actions_within d e m h.0 h.1, h.2, (h.3.0, h.3.1, sym (same_parent h.0.namespace h.3.0) ∙ h.3.2))

  same_refers : (p q : CommonDeclaration → Bool) → ((c : CommonDeclaration) → p c ≡ q c) → (o : Option Meant) → refers_to_record p d o ≡ refers_to_record q e o
  same_refers p q f (Some (meant_common n)) =
      all_agree (λ c. not (name_eq n (common_name c)) || p c) (λ c. not (name_eq n (common_name c)) || q c) (λ c. ap (λ b. not (name_eq n (common_name c)) || b) (f c)) d.commons
      ∙ all_reordered (λ c. not (name_eq n (common_name c)) || q c) d.commons e.commons m.commons
  same_refers p q f (Some (meant_entity n)) = refl
  same_refers p q f None = refl

  same_record : (k : ℕ) (ns : Namespace) (t : TypeExpr) → is_record_within k d ns t ≡ is_record_within k e ns t
  same_record zero ns t = same_written (λ x k n. false) (λ x k n. false) (λ x k n. refl) ns t
  same_record (suc k) ns t =
      same_written
      (λ x i n. refers_to_record (λ c. is_record_within k d c.namespace c.definition) d (meant d (record { namespace = x; kind = i; name = n })))
      (λ x i n. refers_to_record (λ c. is_record_within k e c.namespace c.definition) e (meant e (record { namespace = x; kind = i; name = n })))
      (λ x i n. same_refers (λ c. is_record_within k d c.namespace c.definition) (λ c. is_record_within k e c.namespace c.definition) (λ c. same_record k c.namespace c.definition) (meant d (record { namespace = x; kind = i; name = n }))
      ∙ ap (refers_to_record (λ c. is_record_within k e c.namespace c.definition) e) (same_meant (record { namespace = x; kind = i; name = n })))
      ns t

  pub same_becomes : (a : ActionDeclaration) → becomes_record d a ≡ becomes_record e a
  same_becomes a = same_record (length d.commons) a.namespace a.context ∙ ap (λ k. is_record_within k e a.namespace a.context) (sym (length_permutation d.commons e.commons m.commons))

-- repeats
each_false : {X : Type 0} (p : X → Bool) (xs : List X) → list_any p xs ≡ false → lists.AllByRecursion (λ y. p y ≡ false) xs
each_false p [] h = tt
each_false {X} p (x ∷ xs) h = step (p x) refl h (each_false p xs)
  where
    step : (b : Bool) → p x ≡ b → (b || list_any p xs) ≡ false → (list_any p xs ≡ false → lists.AllByRecursion (λ y. p y ≡ false) xs) → lists.AllByRecursion (λ y. p y ≡ false) (x ∷ xs)
    step true e h rest = cc
    step false e h rest = (e, rest h)

false_each : {X : Type 0} (p : X → Bool) (xs : List X) → lists.AllByRecursion (λ y. p y ≡ false) xs → (x : X) → Contains xs x → p x ≡ false
false_each p [] h x k = absurd (contains_none x k)
false_each p (y ∷ xs) h x k = contains_cases (p x ≡ false) y xs x k (λ e. ap p (sym e) ∙ h.0) (false_each p xs h.1 x)

neither : (a b : Bool) → (a || b) ≡ false → (a ≡ false) × (b ≡ false)
neither true b e = cc
neither false b e = (refl, e)

distinct : {X : Type 0} (eq : X → X → Bool) (xs : List X) → has_twice eq xs ≡ false → IsDistinct eq xs
unfolding IsDistinct
distinct eq [] h = tt
distinct eq (x ∷ xs) h =
    let p = neither (list_any (eq x) xs) (has_twice eq xs) h in
    (each_false (eq x) xs p.0, distinct eq xs p.1)

not_twice : {X : Type 0} (eq : X → X → Bool) → ((x : X) → eq x x ≡ true) → (xs : List X) → IsDistinct eq xs → HasTwice xs → ⊥
not_twice eq same [] k h = h
not_twice eq same (x ∷ xs) k h =
    ⊎_elim
    (λ c. let p = false_each (eq x) xs (IsDistinct-head eq x xs k) x c in let q = same x in cc)
    (not_twice eq same xs (IsDistinct-tail eq x xs k))
    h

twice_case : {X : Type 0} (eq : X → X → Bool) → ((x y : X) → Decides (eq x y) (x ≡ y)) → (flips : (x y : X) → eq x y ≡ eq y x) → (xs ys : List X) → IsPermutation xs ys → HasTwice xs → (b : Bool) → has_twice eq ys ≡ b → HasTwice ys
twice_case eq each flips xs ys m h true e = (has_twice-Decides eq each ys).0 e
twice_case eq each flips xs ys m h false e = absurd (not_twice eq (λ x. (each x x).1 refl) xs (IsDistinct-IsPermutation eq flips ys xs (IsPermutation-sym xs ys m) (distinct eq ys e)) h)

flipped : {X : Type 0} (eq : X → X → Bool) → ((x y : X) → Decides (eq x y) (x ≡ y)) → (x y : X) → eq x y ≡ eq y x
flipped eq each x y = same_truth (eq x y) (eq y x) (λ h. (each y x).1 (sym ((each x y).0 h))) (λ h. (each x y).1 (sym ((each y x).0 h)))

pub twice_moved : {X : Type 0} (eq : X → X → Bool) → ((x y : X) → Decides (eq x y) (x ≡ y)) → (xs ys : List X) → IsPermutation xs ys → HasTwice xs → HasTwice ys
twice_moved eq each xs ys m h = twice_case eq each (flipped eq each) xs ys m h (has_twice eq ys) refl

pub fault_moved : (x : List Name) (d e : Declarations) → IsReordered d e → (f : SchemaFault) → HasSchemaFault x d f → HasSchemaFault x e f
fault_moved x d e m duplicate_entity_type h = twice_moved name_eq name_eq-Decides (entity_names d) (entity_names e) (IsPermutation-map entity_name d.entities e.entities m.entities) h
fault_moved x d e m duplicate_common_type h = twice_moved name_eq name_eq-Decides (common_names d) (common_names e) (IsPermutation-map common_name d.commons e.commons m.commons) h
fault_moved x d e m duplicate_action h = twice_moved uid_eq uid_eq-Decides (action_uids d) (action_uids e) (IsPermutation-map action_uid d.actions e.actions m.actions) h
fault_moved x d e m undeclared_type h = (h.0, references_within d e m h.0 h.1, sym (same_meant d e m h.0) ∙ h.2)
fault_moved x d e m undeclared_action h = (h.0, actions_within d e m h.0 h.1, (h.2.0, h.2.1, sym (same_parent d e m h.0.namespace h.2.0) ∙ h.2.2))
fault_moved x d e m cycle_of_common_types h = (h.0, reaches_along (Uses d) (Uses e) (uses_along d e m) h.0 h.0 h.1)
fault_moved x d e m cycle_of_actions h = (h.0, reaches_along (HasParentAction d) (HasParentAction e) (parents_along d e m) h.0 h.0 h.1)
fault_moved x d e m action_as_entity_type h = (h.0, entities_within d e m h.0 h.1, h.2)
fault_moved x d e m context_not_record h = (h.0, actions_within d e m h.0 h.1, sym (same_becomes d e m h.0) ∙ h.2)
fault_moved x d e m reserved_name h = (h.0, names_within d e m h.0 h.1, h.2)
fault_moved x d e m shadowing h =
    ⊎_elim
    (λ k. inl (k.0, types_named d e m k.0 k.1, k.2, types_named d e m (unqualified k.0.base) k.3))
    (λ k. inr (k.0, actions_named d e m k.0 k.1, k.2, actions_named d e m (unqualified_uid k.0) k.3))
    h
fault_moved x d e m unknown_extension_type h = (h.0, extensions_within d e m h.0 h.1, h.2)
fault_moved x d e m unresolved_external h =
    ⊎_elim (λ k. inl (k.0, entities_within d e m k.0 k.1, k.2)) (λ k. inr (k.0, actions_within d e m k.0 k.1, k.2)) h

pub same_faults : (x : List Name) (d e : Declarations) → IsReordered d e → (f : SchemaFault) → HasSchemaFault x d f ↔ HasSchemaFault x e f
same_faults x d e m f = (fault_moved x d e m f, fault_moved x e d (reordered_back d e m) f)

-- fragments
swapped : {X : Type 0} (p q r s : List X) → IsPermutation (p ++ (q ++ (r ++ s))) (p ++ (r ++ (q ++ s)))
swapped p q r s =
    IsPermutation-append_right p (q ++ (r ++ s)) (r ++ (q ++ s))
    (subst (λ l. IsPermutation l (r ++ (q ++ s))) (append_assoc q r s) (subst (IsPermutation ((q ++ r) ++ s)) (append_assoc r q s) (IsPermutation-append_left s (q ++ r) (r ++ q) (IsPermutation-append_comm q r))))

two_flat : {X Y : Type 0} (f : X → List Y) (before after : List X) (d e : X) → flat_map f (before ++ d ∷ e ∷ after) ≡ flat_map f before ++ (f d ++ (f e ++ flat_map f after))
two_flat f before after d e =
    flat_map-append f before (d ∷ e ∷ after) ∙ ap (λ l. flat_map f before ++ l) (flat_map-cons f d (e ∷ after) ∙ ap (λ l. f d ++ l) (flat_map-cons f e after))

flat_swapped : {X Y : Type 0} (f : X → List Y) (before after : List X) (d e : X) → IsPermutation (flat_map f (before ++ d ∷ e ∷ after)) (flat_map f (before ++ e ∷ d ∷ after))
flat_swapped f before after d e =
    subst (λ l. IsPermutation l (flat_map f (before ++ e ∷ d ∷ after))) (sym (two_flat f before after d e))
    (subst (IsPermutation (flat_map f before ++ (f d ++ (f e ++ flat_map f after)))) (sym (two_flat f before after e d)) (swapped (flat_map f before) (f d) (f e) (flat_map f after)))

pub fragments_move : (before after : List Declarations) (d e : Declarations) → IsReordered (bag (before ++ d ∷ e ∷ after)) (bag (before ++ e ∷ d ∷ after))
fragments_move before after d e = record {
  commons = flat_swapped (λ x. x.commons) before after d e;
  entities = flat_swapped (λ x. x.entities) before after d e;
  actions = flat_swapped (λ x. x.actions) before after d e;
}

joined_flat : {X Y : Type 0} (f : X → List Y) (before after : List X) (x d e : X) → f x ≡ flat_map f (d ∷ e ∷ []) → flat_map f (before ++ x ∷ after) ≡ flat_map f (before ++ d ∷ e ∷ after)
joined_flat f before after x d e h =
    flat_map-append f before (x ∷ after)
    ∙ (ap (λ l. flat_map f before ++ l)
    (flat_map-cons f x after ∙ (ap (λ l. l ++ flat_map f after) (h ∙ pair) ∙ append_assoc (f d) (f e) (flat_map f after)))
    ∙ sym (two_flat f before after d e))
  where
    pair : flat_map f (d ∷ e ∷ []) ≡ f d ++ f e
    pair = flat_map-cons f d (e ∷ []) ∙ ap (λ l. f d ++ l) (flat_map-cons f e [] ∙ append-nil (f e))

pub splitting_free : (before after : List Declarations) (d e : Declarations) → bag (before ++ bag (d ∷ e ∷ []) ∷ after) ≡ bag (before ++ d ∷ e ∷ after)
splitting_free before after d e =
    let x = bag (d ∷ e ∷ []) in
    λ i. record {
      commons = joined_flat (λ y. y.commons) before after x d e refl i;
      entities = joined_flat (λ y. y.entities) before after x d e refl i;
      actions = joined_flat (λ y. y.actions) before after x d e refl i;
    }
