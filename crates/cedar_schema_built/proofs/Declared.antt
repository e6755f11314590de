-- What fragments list has the names of the declarations that they write.
use Rattle.std.proofs.Common.{◌≡◌, ◌↔◌, Bool, true, false, ◌&&◌, List, [], ◌∷◌, ◌++◌, map, Option, Some, None, refl, sym, ap, ◌∙◌, subst, ⊎_elim}
use Rattle.std.specs.Prelude.{Contains, not, if◌then◌else◌}
use Rattle.std.specs.List.{flat_map}
use Rattle.std.specs.Option.{option_to_list}
use Rattle.std.specs.declared.cmp.Ordering.TheVariants.{Equal}
use Rattle.std.proofs.lemmas.List.Elements.{Contains-append_left, Contains-append_right, Contains-append_cases}
use Rattle.std.specs.List.Sorted.{IsPermutation}
use Rattle.std.proofs.lemmas.List.Sorted.{IsPermutation-map, Contains-permutation}
use Rattle.std.proofs.lemmas.List.{same_from_push}
use Rattle.cedar_expr_model.specs.Name.{Text, Name, is_well_formed}
use Rattle.cedar_expr_model.specs.UidOrder.{name_cmp}
use Rattle.cedar_expr_model.specs.Lists.{is_nil, rises}
use Rattle.cedar_expr_model.proofs.Lists.{contains_cases, contains_none, contains_head, map_has, map_from, flat_has, flat_from}
use Rattle.cedar_expr_names.proofs.Equality.{well_formed}
use Rattle.cedar_expr_names.specs.declared.internal_name.InternalName.{InternalName}
use Rattle.cedar_expr_names.specs.declared.loc.Loc.{Loc}
use Rattle.cedar_schema_model.specs.BagLaws.{IsReordered}
use Rattle.cedar_schema_model.specs.Declarations.{CommonDeclaration, EntityDeclaration, ActionDeclaration, Declarations, common_name, common_names}
use Rattle.cedar_schema_model.specs.Reference.{Namespace}
use Rattle.cedar_schema_model.proofs.Decls.Reordered.{reordered_back}
use Rattle.cedar_schema_decl.specs.Laws.{namespace_parts}
use Rattle.cedar_schema_fragments.proofs.Wholes.{whole, wholes_are}
use Rattle.cedar_schema_fragments.specs.Qualified.{common_qualified, entity_qualified, action_qualified}
use Rattle.cedar_schema_fragments.specs.Written.{WrittenNamespace}
use Rattle.cedar_schema_fragments.specs.WrittenDeclarations.{common_declaration, entity_declaration, action_declaration, declared_in, declarations_of, all_forms, AreWritten}
use Rattle.cedar_schema_built.specs.OfFragments.{common_in, commons_of_space, commons_of_fragment, commons_of_fragments, declares_any, space_at, space_in, spaces_of_fragment, spaces_of_fragments}
use Rattle.cedar_schema_built.specs.LocatedViews.{ListedCommon, ListedSpace}
use Rattle.cedar_schema_built.proofs.Forms.{Fragment, Form, all_put_names, commons_named, any_in, space_found, spaces_named}
use Rattle.cedar_schema_built.proofs.PutRises.{all_put_rises}
use Rattle.cedar_schema_built.proofs.Rising.{name_total, same_rising}
use Rattle.cedar_schema_built.proofs.Sorted.{name_same, put_only, one_put}
use Rattle.cedar_schema_built.specs.Listed.{Listed, AreListed, namespaces_of, parts_of, HasNamesOf, HaveSameNames}
use Rattle.cedar_schema_built.specs.Put.{all_put}

-- the namespace of a declaration
abbrev of_common : CommonDeclaration → Namespace
of_common c = c.namespace

abbrev of_entity : EntityDeclaration → Namespace
of_entity t = t.namespace

abbrev of_action : ActionDeclaration → Namespace
of_action a = a.namespace

-- what is declared in a namespace as it is written is declared in that namespace
module _ (space : Option Name) {X Y Z D E F : Type 0} (c : X → D) (e : Y → E) (a : Z → F) (cn : D → Namespace) (en : E → Namespace) (an : F → Namespace) (cs_ : (x : X) → cn (c x) ≡ namespace_parts space) (es_ : (y : Y) → en (e y) ≡ namespace_parts space) (as_ : (z : Z) → an (a z) ≡ namespace_parts space) where
  abbrev all_in : List X → List Y → List Z → List Namespace
  all_in xs ys zs = map cn (map c xs) ++ (map en (map e ys) ++ map an (map a zs))

  abbrev some_in : List X → List Y → List Z → Bool
  some_in xs ys zs = not (is_nil xs && (is_nil ys && is_nil zs))

  pub space_there : (xs : List X) (ys : List Y) (zs : List Z) → some_in xs ys zs ≡ true → Contains (all_in xs ys zs) (namespace_parts space)
  space_there (x ∷ xs) ys zs h = subst (λ n. Contains (n ∷ (map cn (map c xs) ++ (map en (map e ys) ++ map an (map a zs)))) (namespace_parts space)) (sym (cs_ x)) (contains_head (namespace_parts space) _)
  space_there [] (y ∷ ys) zs h = subst (λ n. Contains (n ∷ (map en (map e ys) ++ map an (map a zs))) (namespace_parts space)) (sym (es_ y)) (contains_head (namespace_parts space) _)
  space_there [] [] (z ∷ zs) h = subst (λ n. Contains (n ∷ map an (map a zs)) (namespace_parts space)) (sym (as_ z)) (contains_head (namespace_parts space) _)
  space_there [] [] [] h = absurd (cc)

  one_of : {V W : Type 0} (v : V → W) (n : W → Namespace) → ((x : V) → n (v x) ≡ namespace_parts space) → (xs : List V) (ns : Namespace) → Contains (map n (map v xs)) ns → (namespace_parts space ≡ ns) × (is_nil xs ≡ false)
  one_of v n is [] ns h = absurd (contains_none ns h)
  one_of v n is (x ∷ xs) ns h =
      let r = map_from n (map v (x ∷ xs)) ns h in
      let s = map_from v (x ∷ xs) r.0 r.1 in
      (sym (is s.0) ∙ ap n s.2 ∙ r.2, refl)

  some_first : (xs : List X) (ys : List Y) (zs : List Z) → is_nil xs ≡ false → some_in xs ys zs ≡ true
  some_first xs ys zs h = ap (λ b. not (b && (is_nil ys && is_nil zs))) h

  some_second : (xs : List X) (ys : List Y) (zs : List Z) → is_nil ys ≡ false → some_in xs ys zs ≡ true
  some_second [] ys zs h = ap (λ b. not (b && is_nil zs)) h
  some_second (x ∷ xs) ys zs h = refl

  some_third : (xs : List X) (ys : List Y) (zs : List Z) → is_nil zs ≡ false → some_in xs ys zs ≡ true
  some_third [] [] zs h = ap not h
  some_third [] (y ∷ ys) zs h = refl
  some_third (x ∷ xs) ys zs h = refl

  pub space_only : (xs : List X) (ys : List Y) (zs : List Z) (ns : Namespace) → Contains (all_in xs ys zs) ns → (namespace_parts space ≡ ns) × (some_in xs ys zs ≡ true)
  space_only xs ys zs ns h =
      ⊎_elim
      (λ k. let r = one_of c cn cs_ xs ns k in (r.0, some_first xs ys zs r.1))
      (λ k. ⊎_elim
      (λ l. let r = one_of e en es_ ys ns l in (r.0, some_second xs ys zs r.1))
      (λ l. let r = one_of a an as_ zs ns l in (r.0, some_third xs ys zs r.1))
      (Contains-append_cases (map en (map e ys)) (map an (map a zs)) ns k))
      (Contains-append_cases (map cn (map c xs)) (map en (map e ys) ++ map an (map a zs)) ns h)

-- of one kind, in all of what is written
module _ {D : Type 0} (pick : Declarations → List D) (n : D → Namespace) (ws : List WrittenNamespace) where
  pub within : (w : WrittenNamespace) (ns : Namespace) → Contains ws w → Contains (map n (pick (declared_in w))) ns → Contains (map n (flat_map pick (map declared_in ws))) ns
  within w ns k h =
      let r = map_from n (pick (declared_in w)) ns h in
      subst (Contains (map n (flat_map pick (map declared_in ws)))) r.2 (map_has n (flat_map pick (map declared_in ws)) r.0 (flat_has pick (map declared_in ws) (declared_in w) r.0 (map_has declared_in ws w k) r.1))

  pub back : (ns : Namespace) → Contains (map n (flat_map pick (map declared_in ws))) ns → (w : WrittenNamespace) × Contains ws w × Contains (map n (pick (declared_in w))) ns
  back ns h =
      let r = map_from n (flat_map pick (map declared_in ws)) ns h in
      let s = flat_from pick (map declared_in ws) r.0 r.1 in
      let t = map_from declared_in ws s.0 s.1 in
      (t.0, t.1, subst (λ q. Contains (map n (pick q)) ns) (sym t.2) (subst (Contains (map n (pick s.0))) r.2 (map_has n (pick s.0) r.0 s.2)))

module _ (ws : List WrittenNamespace) where
  all_within : (w : WrittenNamespace) (ns : Namespace) → Contains ws w → Contains (namespaces_of (declared_in w)) ns → Contains (namespaces_of (declarations_of ws)) ns
  all_within w ns k h =
      let d = declarations_of ws in
      ⊎_elim
      (λ g. Contains-append_left (map of_common d.commons) (map of_entity d.entities ++ map of_action d.actions) ns (within (λ q. q.commons) of_common ws w ns k g))
      (λ g. Contains-append_right (map of_common d.commons) (map of_entity d.entities ++ map of_action d.actions) ns (⊎_elim
      (λ l. Contains-append_left (map of_entity d.entities) (map of_action d.actions) ns (within (λ q. q.entities) of_entity ws w ns k l))
      (λ l. Contains-append_right (map of_entity d.entities) (map of_action d.actions) ns (within (λ q. q.actions) of_action ws w ns k l))
      (Contains-append_cases (map of_entity (declared_in w).entities) (map of_action (declared_in w).actions) ns g)))
      (Contains-append_cases (map of_common (declared_in w).commons) (map of_entity (declared_in w).entities ++ map of_action (declared_in w).actions) ns h)

  abbrev InOne : Namespace → Type 0
  InOne ns = (w : WrittenNamespace) × Contains ws w × Contains (namespaces_of (declared_in w)) ns

  all_back : (ns : Namespace) → Contains (namespaces_of (declarations_of ws)) ns → InOne ns
  all_back ns h =
      let d = declarations_of ws in
      ⊎_elim
      (λ g. let r = back (λ q. q.commons) of_common ws ns g in (r.0, r.1, Contains-append_left (map of_common (declared_in r.0).commons) (map of_entity (declared_in r.0).entities ++ map of_action (declared_in r.0).actions) ns r.2))
      (λ g. ⊎_elim
      (λ l. let r = back (λ q. q.entities) of_entity ws ns l in (r.0, r.1, Contains-append_right (map of_common (declared_in r.0).commons) (map of_entity (declared_in r.0).entities ++ map of_action (declared_in r.0).actions) ns (Contains-append_left (map of_entity (declared_in r.0).entities) (map of_action (declared_in r.0).actions) ns r.2)))
      (λ l. let r = back (λ q. q.actions) of_action ws ns l in (r.0, r.1, Contains-append_right (map of_common (declared_in r.0).commons) (map of_entity (declared_in r.0).entities ++ map of_action (declared_in r.0).actions) ns (Contains-append_right (map of_entity (declared_in r.0).entities) (map of_action (declared_in r.0).actions) ns r.2)))
      (Contains-append_cases (map of_entity d.entities) (map of_action d.actions) ns g))
      (Contains-append_cases (map of_common d.commons) (map of_entity d.entities ++ map of_action d.actions) ns h)

-- what is found of a namespace
found_is : (t : Bool) (o : Option Name) (m : Name) → Contains (if t then option_to_list o else []) m → (o ≡ Some m) × (t ≡ true)
found_is false o m h = absurd (contains_none m h)
found_is true None m h = absurd (contains_none m h)
found_is true (Some n) m h = contains_cases ((Some n ≡ Some m) × (true ≡ true)) n [] m h (λ e. (ap (λ k. Some k) e, refl)) (λ k. absurd (contains_none m k))

found_there : (t : Bool) (o : Option Name) (m : Name) → o ≡ Some m → t ≡ true → Contains (if t then option_to_list o else []) m
found_there t o m e h = subst (λ b. Contains (if b then option_to_list o else []) m) (sym h) (subst (λ p. Contains (option_to_list p) m) (sym e) (contains_head m []))

-- a namespace with a name has parts, and one with parts a name
parts_there : (p : List Text) (b : Text) → is_nil (p ++ b ∷ []) ≡ false
parts_there [] b = refl
parts_there (q ∷ p) b = refl

named_by : (o : Option Name) (ns : Namespace) → namespace_parts o ≡ ns → is_nil ns ≡ false → (m : Name) × (o ≡ Some m)
named_by None ns e h = absurd (let k : true ≡ false = ap is_nil e ∙ h in cc)
named_by (Some m) ns e h = (m, refl)

-- what is listed has well-formed names
abbrev IsFormed : Name → Type 0
IsFormed n = is_well_formed n ≡ true

common_formed : (fs : List Fragment) (x : ListedCommon) → Contains (commons_of_fragments fs) x → IsFormed x.name
common_formed fs x h =
    let f = flat_from commons_of_fragment fs x h in
    let n = flat_from commons_of_space f.0.0.items x f.2 in
    let e = map_from common_in n.0.common_types.defs.items x n.2 in
    subst (λ (c : ListedCommon). IsFormed c.name) e.2 (well_formed e.0.0)

space_formed_at : (l : Option Loc) (o : Option InternalName) (t : Bool) (x : ListedSpace) → Contains (if t then space_at l o else []) x → IsFormed x.name
space_formed_at l o false x h = absurd (contains_none x h)
space_formed_at l None true x h = absurd (contains_none x h)
space_formed_at l (Some n) true x h = contains_cases (IsFormed x.name) _ [] x h (λ e. subst (λ (s : ListedSpace). IsFormed s.name) e (well_formed n)) (λ k. absurd (contains_none x k))

space_formed : (fs : List Fragment) (x : ListedSpace) → Contains (spaces_of_fragments fs) x → IsFormed x.name
space_formed fs x h =
    let f = flat_from spaces_of_fragment fs x h in
    let n = flat_from space_in f.0.0.items x f.2 in
    space_formed_at n.0.loc n.0.namespace (declares_any n.0) x n.2

-- of what is put in order the names are those of what was put
module _ {A : Type 0} (name : A → Name) (xs : List A) (formed : (x : A) → Contains xs x → IsFormed (name x)) where
  abbrev same_named : (a b : A) → IsFormed (name a) → IsFormed (name b) → name_cmp (name a) (name b) ≡ Equal → name a ≡ name b
  same_named a b p q e = name_same (name a) (name b) p q e

  pub put_from : (x : A) → Contains (all_put name_cmp name [] xs) x → Contains xs x
  put_from x h = put_only name_cmp name (λ a. IsFormed (name a)) same_named xs x h

  pub put_there : (x : A) → Contains xs x → (y : A) × Contains (all_put name_cmp name [] xs) y × (name y ≡ name x)
  put_there x h = one_put name_cmp name (λ a. IsFormed (name a)) same_named xs formed x h

  pub names_put : (ns : List Name) → map name xs ≡ ns → (n : Name) → Contains (map name (all_put name_cmp name [] xs)) n ↔ Contains ns n
  names_put ns e n = (
    λ h. let r = map_from name (all_put name_cmp name [] xs) n h in subst (λ ms. Contains ms n) e (subst (Contains (map name xs)) r.2 (map_has name xs r.0 (put_from r.0 r.1))),
    λ h. let r = map_from name xs n (subst (λ ms. Contains ms n) (sym e) h) in
        let y = put_there r.0 r.1 in
        subst (Contains (map name (all_put name_cmp name [] xs))) (y.2 ∙ r.2) (map_has name (all_put name_cmp name [] xs) y.0 y.1),
  )

-- a namespace declares something exactly where its form does
nil_is : {X Y : Type 0} (f : X → Y) (xs : List X) → is_nil (map f xs) ≡ is_nil xs
nil_is f [] = refl
nil_is f (x ∷ xs) = refl

whole_same : (v : WrittenNamespace) → any_in (whole v) ≡ not (is_nil v.commons && (is_nil v.entities && is_nil v.actions))
whole_same v = λ i. not (nil_is (common_qualified v.namespace) v.commons i && (nil_is (entity_qualified v.namespace) v.entities i && nil_is (action_qualified v.namespace) v.actions i))

module _ (fs : List Fragment) (d : Declarations) (w : AreWritten fs d) (l : Listed) (is : AreListed fs l) where
  abbrev ws : List WrittenNamespace
  ws = w.namespaces

  forms : all_forms fs ≡ map whole ws
  forms = wholes_are ws (all_forms fs) w.qualifies

  names_are : map (λ c. c.name) (commons_of_fragments fs) ≡ common_names d
  names_are = commons_named fs ws forms ∙ ap common_names (sym w.declares)

  some_whole : (v : WrittenNamespace) → any_in (whole v) ≡ true → Contains (namespaces_of (declared_in v)) (namespace_parts v.namespace)
  some_whole v h = space_there v.namespace (common_declaration v.namespace) (entity_declaration v.namespace) (action_declaration v.namespace) of_common of_entity of_action (λ x. refl) (λ y. refl) (λ z. refl) v.commons v.entities v.actions (sym (whole_same v) ∙ h)

  space_from : (ns : Namespace) → Contains (map parts_of l.spaces) ns → Contains (namespaces_of d) ns × (is_nil ns ≡ false)
  space_from ns h =
      let r = map_from parts_of l.spaces ns h in
      let x = put_from (λ (s : ListedSpace). s.name) (spaces_of_fragments fs) (space_formed fs) r.0 (subst (λ ss. Contains ss r.0) is.spaces r.1) in
      let k = flat_from (λ v. space_found (whole v)) ws r.0.name (subst (λ ns. Contains ns r.0.name) (spaces_named fs ws forms) (map_has (λ (s : ListedSpace). s.name) (spaces_of_fragments fs) r.0 x)) in
      let f = found_is (any_in (whole k.0)) k.0.namespace r.0.name k.2 in
      let e : namespace_parts k.0.namespace ≡ ns = ap namespace_parts f.0 ∙ r.2 in (
        subst (λ q. Contains (namespaces_of q) ns) (sym w.declares) (all_within ws k.0 ns k.1 (subst (Contains (namespaces_of (declared_in k.0))) e (some_whole k.0 f.1))),
        ap is_nil (sym r.2) ∙ parts_there r.0.name.path r.0.name.base,
      )

  space_to : (ns : Namespace) → Contains (namespaces_of d) ns → is_nil ns ≡ false → Contains (map parts_of l.spaces) ns
  space_to ns h n =
      let r = all_back ws ns (subst (λ q. Contains (namespaces_of q) ns) w.declares h) in
      let v = r.0 in
      let s = space_only v.namespace (common_declaration v.namespace) (entity_declaration v.namespace) (action_declaration v.namespace) of_common of_entity of_action (λ x. refl) (λ y. refl) (λ z. refl) v.commons v.entities v.actions ns r.2 in
      let m = named_by v.namespace ns s.0 n in
      let k : Contains (flat_map (λ u. space_found (whole u)) ws) m.0 = flat_has (λ u. space_found (whole u)) ws v m.0 r.1 (found_there (any_in (whole v)) v.namespace m.0 m.1 (whole_same v ∙ s.1)) in
      let x = map_from (λ (s : ListedSpace). s.name) (spaces_of_fragments fs) m.0 (subst (λ ns. Contains ns m.0) (sym (spaces_named fs ws forms)) k) in
      let y = put_there (λ (s : ListedSpace). s.name) (spaces_of_fragments fs) (space_formed fs) x.0 x.1 in
      let e : parts_of y.0 ≡ ns = ap (λ o. namespace_parts o) (ap (λ z. Some z) (y.2 ∙ x.2) ∙ sym m.1) ∙ s.0 in
      subst (Contains (map parts_of l.spaces)) e (map_has parts_of l.spaces y.0 (subst (λ ss. Contains ss y.0) (sym is.spaces) y.1))

  pub listed_declared : HasNamesOf d l
  listed_declared = record {
    commons = ap (map (λ c. c.name)) is.commons ∙ all_put_names name_cmp (λ c. c.name) [] (commons_of_fragments fs) ∙ ap (all_put name_cmp (λ n. n) []) names_are;
    spaces = λ ns. (space_from ns, λ h. space_to ns h.0 h.1);
  }

  pub commons_listed : (n : Name) → Contains (map (λ c. c.name) l.commons) n ↔ Contains (common_names d) n
  commons_listed n =
      let r = names_put (λ (c : ListedCommon). c.name) (commons_of_fragments fs) (common_formed fs) (common_names d) names_are n in
      (λ h. r.0 (subst (λ cs. Contains (map (λ c. c.name) cs) n) is.commons h), λ h. subst (λ cs. Contains (map (λ c. c.name) cs) n) (sym is.commons) (r.1 h))

-- Declarations in another order have the same namespaces.
moved : {X Y : Type 0} (f : X → Y) (xs ys : List X) → IsPermutation xs ys → (y : Y) → Contains (map f xs) y → Contains (map f ys) y
moved f xs ys m y h = Contains-permutation (map f xs) (map f ys) y (IsPermutation-map f xs ys m) h

spaces_moved : (d e : Declarations) → IsReordered d e → (ns : Namespace) → Contains (namespaces_of d) ns → Contains (namespaces_of e) ns
spaces_moved d e m ns h =
    ⊎_elim
    (λ g. Contains-append_left (map of_common e.commons) (map of_entity e.entities ++ map of_action e.actions) ns (moved of_common d.commons e.commons m.commons ns g))
    (λ g. Contains-append_right (map of_common e.commons) (map of_entity e.entities ++ map of_action e.actions) ns (⊎_elim
    (λ l. Contains-append_left (map of_entity e.entities) (map of_action e.actions) ns (moved of_entity d.entities e.entities m.entities ns l))
    (λ l. Contains-append_right (map of_entity e.entities) (map of_action e.actions) ns (moved of_action d.actions e.actions m.actions ns l))
    (Contains-append_cases (map of_entity d.entities) (map of_action d.actions) ns g)))
    (Contains-append_cases (map of_common d.commons) (map of_entity d.entities ++ map of_action d.actions) ns h)

-- of the names that are listed none stands twice, and they rise
module _ (fs : List Fragment) (d : Declarations) (w : AreWritten fs d) (l : Listed) (is : AreListed fs l) where
  commons_rise : rises name_cmp (map (λ c. c.name) l.commons) ≡ true
  commons_rise = ap (rises name_cmp) (listed_declared fs d w l is).commons ∙ all_put_rises name_total [] (common_names d) refl

  spaces_rise : rises name_cmp (map (λ n. n.name) l.spaces) ≡ true
  spaces_rise =
      ap (rises name_cmp) (ap (map (λ n. n.name)) is.spaces ∙ all_put_names name_cmp (λ n. n.name) [] (spaces_of_fragments fs))
      ∙ all_put_rises name_total [] (map (λ n. n.name) (spaces_of_fragments fs)) refl

-- a namespace of these parts has this name
name_is : (m n : Name) → namespace_parts (Some m) ≡ namespace_parts (Some n) → m ≡ n
name_is m n e = let s = same_from_push m.path n.path m.base n.base e in λ i. record { path = s.0 i; base = s.1 i }

named_space : (ss : List ListedSpace) (n : Name) → Contains (map (λ (s : ListedSpace). s.name) ss) n → Contains (map parts_of ss) (namespace_parts (Some n))
named_space ss n h =
    let r = map_from (λ (s : ListedSpace). s.name) ss n h in
    subst (λ m. Contains (map parts_of ss) (namespace_parts (Some m))) r.2 (map_has parts_of ss r.0 r.1)

space_named : (ss : List ListedSpace) (n : Name) → Contains (map parts_of ss) (namespace_parts (Some n)) → Contains (map (λ (s : ListedSpace). s.name) ss) n
space_named ss n h =
    let r = map_from parts_of ss (namespace_parts (Some n)) h in
    subst (Contains (map (λ (s : ListedSpace). s.name) ss)) (name_is r.0.name n r.2) (map_has (λ (s : ListedSpace). s.name) ss r.0 r.1)

-- what is listed of declarations is listed of the same in another order
module _ (fs gs : List Fragment) (d e : Declarations) (w : AreWritten fs d) (v : AreWritten gs e) (r : IsReordered d e) (l m : Listed) (p : AreListed fs l) (q : AreListed gs m) where
  commons_there : (n : Name) → Contains (map (λ c. c.name) l.commons) n → Contains (map (λ c. c.name) m.commons) n
  commons_there n h = (commons_listed gs e v m q n).1 (moved common_name d.commons e.commons r.commons n ((commons_listed fs d w l p n).0 h))

  spaces_there : (n : Name) → Contains (map (λ (s : ListedSpace). s.name) l.spaces) n → Contains (map (λ (s : ListedSpace). s.name) m.spaces) n
  spaces_there n h =
      let k = ((listed_declared fs d w l p).spaces (namespace_parts (Some n))).0 (named_space l.spaces n h) in
      space_named m.spaces n (((listed_declared gs e v m q).spaces (namespace_parts (Some n))).1 (spaces_moved d e r (namespace_parts (Some n)) k.0, k.1))

pub same_listed : (fs gs : List Fragment) (d e : Declarations) → AreWritten fs d → AreWritten gs e → IsReordered d e → (l m : Listed) → AreListed fs l → AreListed gs m → HaveSameNames l m
same_listed fs gs d e w v r l m p q =
    let back = reordered_back d e r in
    record {
      commons = same_rising name_total _ _ (commons_rise fs d w l p) (commons_rise gs e v m q) (commons_there fs gs d e w v r l m p q) (commons_there gs fs e d v w back m l q p);
      spaces = same_rising name_total _ _ (spaces_rise fs d w l p) (spaces_rise gs e v m q) (spaces_there fs gs d e w v r l m p q) (spaces_there gs fs e d v w back m l q p);
    }
