-- A reserved name in what fragments declare with each name resolved is written in the fragments.
use Rattle.std.proofs.Common.{◌≡◌, Bool, true, false, cond, List, [], ◌++◌, Option, Some, None, find, Result, Ok, Err, refl, sym, ap, ◌∙◌, subst, ⊎_elim}
use Rattle.std.proofs.lemmas.List.Elements.{Contains-append_left, Contains-append_right, Contains-append_cases}
use Rattle.std.specs.Prelude.{Contains}
use Rattle.std.specs.List.{flat_map, list_any}
use Rattle.std.specs.Option.{option_map_or, option_to_list}
use Rattle.cedar_expr_model.specs.Name.{Text, Name, name_eq, is_reserved}
use Rattle.cedar_expr_model.specs.Uid.{Uid, uid_eq}
use Rattle.cedar_expr_model.proofs.Equality.{name_eq-Decides, uid_eq-Decides}
use Rattle.cedar_expr_model.proofs.Lists.{any_from, contains_head, contains_tail, contains_cases, contains_none, found-Decides, map_has, map_from, flat_has, flat_from}
use Rattle.cedar_expr_names.specs.Views.{name_of, uid_of}
use Rattle.cedar_expr_names.specs.declared.internal_name.InternalName.{InternalName}
use Rattle.cedar_expr_names.specs.declared.entity.EntityUID.{EntityUID}
use Rattle.cedar_expr_leaves.specs.declared.conditional_name.ConditionalName.{ConditionalName}
use Rattle.cedar_schema_model.specs.Reference.{to_entity, Meant, meant_common, meant_entity, meant_at}
use Rattle.cedar_schema_decl.specs.Conditional.{Conditional, conditional_of, may_mean}
use Rattle.cedar_schema_decl.specs.Defined.{Defined, is_defined, is_defined_action, meant_by, meant_name, resolved, resolving}
use Rattle.cedar_schema_decl.specs.Definitions.{common_form, entity_form}
use Rattle.cedar_schema_decl.specs.Forms.{TypeForm, bool_form, long_form, string_form, set_form, record_form, reference_form, extension_form, FieldForms, no_field_forms, field_form, EntityForm, standard_form, enumerated_form, external_form, ActionForm}
use Rattle.cedar_schema_decl.specs.Requalified.{and_then, requalified, requalified_fields, requalified_entity, where_there, each}
use Rattle.cedar_schema_decl.specs.declared.definitions.EntityTypeFragment.{EntityTypeFragment}
use Rattle.cedar_schema_decl.specs.declared.json_schema.CommonType.{CommonType}
use Rattle.cedar_schema_fragments.specs.Actions.{under_uid}
use Rattle.cedar_schema_fragments.specs.Marked.{HasAll, common_names, entity_names, action_uids, namespace_declares, namespace_declares_action}
use Rattle.cedar_schema_fragments.specs.Namespaces.{namespace_form, fragment_form}
use Rattle.cedar_schema_fragments.specs.Refusals.{Refusal, no_action, reserved_type}
use Rattle.cedar_schema_fragments.specs.Resolved.{of_types, unreserved, entity_resolved, applied_resolved, parent_meant_by, parent_resolved, context_resolved, action_resolved, with_uid, commons_resolved, entities_resolved, namespace_resolved}
use Rattle.cedar_schema_fragments.specs.WrittenDeclarations.{all_forms}
use Rattle.cedar_schema_fragments.specs.declared.actions.ActionFragment.{ActionFragment}
use Rattle.cedar_schema_fragments.specs.declared.namespace_def.ValidatorNamespaceDef.{ValidatorNamespaceDef}
use Rattle.cedar_schema_fragments.specs.declared.namespace_def.ValidatorSchemaFragment.{ValidatorSchemaFragment}
use Rattle.cedar_schema_builder.specs.AllResolved.{all_resolved}
use Rattle.cedar_schema_builder.specs.WrittenNames.{as_written, parents_as_written, names_in_type, names_in_fields, names_in_common, names_in_kind, names_in_entity, names_in_action, names_in_namespace, names_in}
use Rattle.cedar_schema_resolver.specs.Meanings.{meant_in, meant_in_fields}
use Rattle.cedar_schema_resolver.specs.Refusals.{extensions_of}
use Rattle.cedar_schema_assembly.specs.Told.{types_in}
use Rattle.cedar_schema_assembly.specs.Seen.{parent_kinds}
use Rattle.cedar_schema_builder.specs.Writing.{CommonForms, EntityForms, ActionForms, commons_of, entities_of, actions_of, names_of_entities}
use Rattle.cedar_schema_builder.specs.FormSteps.{IsReservedOfForms}
use Rattle.cedar_schema_builder.specs.OfFragments.{Fragments, AsDeclared, AsResolved, all_of, extensions_named}
use Rattle.cedar_schema_builder.proofs.Coming.{ok_same, bind_made, bind_refused, last_refused, found_there, each_from, each_refused, each_flat}
use Rattle.cedar_schema_builder.proofs.Spaces.{of_types_made, common_from, entity_from, action_from}

-- what is meant is declared
module _ (s : Defined) where
  from_option : {A : Type 0} (P : Type 0) (o : Option A) (y : A) → Contains (option_to_list o) y → (o ≡ Some y → P) → P
  from_option P None y h k = absurd (contains_none y h)
  from_option P (Some x) y h k = contains_cases P x [] y h (λ e. k (ap Some e)) (λ c. absurd (contains_none y c))

  mutual
    pub meant_is_defined : (t : TypeForm Name) (m : Meant) → Contains (meant_in s t) m → is_defined s m ≡ true
    meant_is_defined bool_form m h = absurd (contains_none m h)
    meant_is_defined long_form m h = absurd (contains_none m h)
    meant_is_defined string_form m h = absurd (contains_none m h)
    meant_is_defined (set_form t) m h = meant_is_defined t m h
    meant_is_defined (record_form fs) m h = fields_are_defined fs m h
    meant_is_defined (reference_form k n) m h = from_option (is_defined s m ≡ true) (find (is_defined s) (meant_at k n)) m h (λ e. (found_there (is_defined s) (meant_at k n) m e).1)
    meant_is_defined (extension_form n) m h = absurd (contains_none m h)

    fields_are_defined : (fs : FieldForms Name) (m : Meant) → Contains (meant_in_fields s fs) m → is_defined s m ≡ true
    fields_are_defined no_field_forms m h = absurd (contains_none m h)
    fields_are_defined (field_form a t r fs) m h = ⊎_elim (λ k. meant_is_defined t m k) (λ k. fields_are_defined fs m k) (Contains-append_cases (meant_in s t) (meant_in_fields s fs) m h)

  -- extension types are kept
  mutual
    pub extension_kept : (t : TypeForm Conditional) (r : TypeForm Name) → requalified (resolving s) t ≡ Ok r → (n : Name) → Contains (extensions_of r) n → Contains (names_in_type t) n
    extension_kept bool_form r h n c = absurd (contains_none n (subst (λ q. Contains (extensions_of q) n) (sym (ok_same bool_form r h)) c))
    extension_kept long_form r h n c = absurd (contains_none n (subst (λ q. Contains (extensions_of q) n) (sym (ok_same long_form r h)) c))
    extension_kept string_form r h n c = absurd (contains_none n (subst (λ q. Contains (extensions_of q) n) (sym (ok_same string_form r h)) c))
    extension_kept (set_form t) r h n c =
        let a = bind_made (λ u. Ok (set_form u)) (requalified (resolving s) t) r h in
        extension_kept t a.0 a.1 n (subst (λ q. Contains (extensions_of q) n) (sym (ok_same (set_form a.0) r a.2)) c)
    extension_kept (record_form fs) r h n c =
        let a = bind_made (λ gs. Ok (record_form gs)) (requalified_fields (resolving s) fs) r h in
        field_kept fs a.0 a.1 n (subst (λ q. Contains (extensions_of q) n) (sym (ok_same (record_form a.0) r a.2)) c)
    extension_kept (reference_form k d) r h n c =
        let a = bind_made (λ b. Ok (reference_form k b)) (resolving s k d) r h in
        absurd (contains_none n (subst (λ q. Contains (extensions_of q) n) (sym (ok_same (reference_form k a.0) r a.2)) c))
    extension_kept (extension_form m) r h n c = subst (λ q. Contains (extensions_of q) n) (sym (ok_same (extension_form m) r h)) c

    field_kept : (fs : FieldForms Conditional) (gs : FieldForms Name) → requalified_fields (resolving s) fs ≡ Ok gs → (n : Name) → Contains (extensions_of (record_form gs)) n → Contains (names_in_fields fs) n
    field_kept no_field_forms gs h n c = absurd (contains_none n (subst (λ q. Contains (extensions_of (record_form q)) n) (sym (ok_same no_field_forms gs h)) c))
    field_kept (field_form b t q fs) gs h n c =
        let a = bind_made (λ u. and_then (λ hs. Ok (field_form b u q hs)) (requalified_fields (resolving s) fs)) (requalified (resolving s) t) gs h in
        let d = bind_made (λ hs. Ok (field_form b a.0 q hs)) (requalified_fields (resolving s) fs) gs a.2 in
        ⊎_elim
        (λ k. Contains-append_left (names_in_type t) (names_in_fields fs) n (extension_kept t a.0 a.1 n k))
        (λ k. Contains-append_right (names_in_type t) (names_in_fields fs) n (field_kept fs d.0 d.1 n k))
        (Contains-append_cases (extensions_of a.0) (extensions_of (record_form d.0)) n (subst (λ z. Contains (extensions_of (record_form z)) n) (sym (ok_same (field_form b a.0 q d.0) gs d.2)) c))

  tag_kept : (t : Option (TypeForm Conditional)) (u : Option (TypeForm Name)) → where_there (requalified (resolving s)) t ≡ Ok u → (r : TypeForm Name) → Contains (option_to_list u) r → (n : Name) → Contains (extensions_of r) n → Contains (flat_map names_in_type (option_to_list t)) n
  tag_kept None u h r c n k = absurd (contains_none r (subst (λ o. Contains (option_to_list o) r) (sym (ok_same None u h)) c))
  tag_kept (Some t) u h r c n k =
      let a = bind_made (λ v. Ok (Some v)) (requalified (resolving s) t) u h in
      contains_cases (Contains (names_in_type t ++ []) n) a.0 [] r (subst (λ o. Contains (option_to_list o) r) (sym (ok_same (Some a.0) u a.2)) c)
      (λ e. Contains-append_left (names_in_type t) [] n (extension_kept t a.0 a.1 n (subst (λ z. Contains (extensions_of z) n) (sym e) k)))
      (λ d. absurd (contains_none r d))

  kind_kept : (e : EntityForm Conditional) (p : EntityForm Name) → requalified_entity (resolving s) e ≡ Ok p → (r : TypeForm Name) → Contains (types_in p) r → (n : Name) → Contains (extensions_of r) n → Contains (names_in_kind e) n
  kind_kept (standard_form ps fs t) p h r c n k =
      let tags = where_there (requalified (resolving s)) t in
      let fields = requalified_fields (resolving s) fs in
      let a = bind_made (λ qs. and_then (λ gs. and_then (λ u. Ok (standard_form qs gs u)) tags) fields) (each (resolving s to_entity) ps) p h in
      let b = bind_made (λ gs. and_then (λ u. Ok (standard_form a.0 gs u)) tags) fields p a.2 in
      let d = bind_made (λ u. Ok (standard_form a.0 b.0 u)) tags p b.2 in
      Contains-append_right (as_written ps) _ n
      (contains_cases (Contains (names_in_fields fs ++ flat_map names_in_type (option_to_list t)) n) (record_form b.0) (option_to_list d.0) r (subst (λ z. Contains (types_in z) r) (sym (ok_same (standard_form a.0 b.0 d.0) p d.2)) c)
      (λ e. Contains-append_left (names_in_fields fs) _ n (field_kept fs b.0 b.1 n (subst (λ z. Contains (extensions_of z) n) (sym e) k)))
      (λ i. Contains-append_right (names_in_fields fs) _ n (tag_kept t d.0 d.1 r i n k)))
  kind_kept (enumerated_form ids) p h r c n k = absurd (contains_none r (subst (λ z. Contains (types_in z) r) (sym (ok_same (enumerated_form ids) p h)) c))
  kind_kept (external_form ps) p h r c n k =
      let a = bind_made (λ qs. Ok (external_form qs)) (each (resolving s to_entity) ps) p h in
      absurd (contains_none r (subst (λ z. Contains (types_in z) r) (sym (ok_same (external_form a.0) p a.2)) c))

  -- an action: its context, and the types of its parents
  abbrev of_action : ActionForm Conditional (Conditional × Text) → List Name × List Name → TypeForm Name → List (Name × Text) → ActionForm Name (Name × Text)
  of_action a applied t us = record { parents = us; principals = applied.0; resources = applied.1; context = t; is_external = a.is_external }

  record ActionMade (a : ActionForm Conditional (Conditional × Text)) (b : ActionForm Name (Name × Text)) : Type 0 where
    context : requalified (resolving s) a.context ≡ Ok b.context
    parents : each (parent_resolved s) a.parents ≡ Ok b.parents

  action_made : (a : ActionForm Conditional (Conditional × Text)) (b : ActionForm Name (Name × Text)) → action_resolved s a ≡ Ok b → ActionMade a b
  action_made a b h =
      let parents = each (parent_resolved s) a.parents in
      let context = context_resolved s a.context in
      let k = bind_made (λ applied. and_then (λ t. and_then (λ us. Ok (of_action a applied t us)) parents) context) (applied_resolved s (a.principals, a.resources)) b h in
      let m = bind_made (λ t. and_then (λ us. Ok (of_action a k.0 t us)) parents) context b k.2 in
      let n = bind_made (λ us. Ok (of_action a k.0 m.0 us)) parents b m.2 in
      subst (ActionMade a) {x = of_action a k.0 m.0 n.0} (ok_same (of_action a k.0 m.0 n.0) b n.2) (record { context = of_types_made (requalified (resolving s) a.context) m.0 m.1; parents = n.1 })

  parent_found : (p : Conditional × Text) (o : Option Name) (q : Name × Text) → option_map_or {U = Result (Name × Text) Refusal} (λ n. Ok (n, p.1)) o (Err (no_action p)) ≡ Ok q → o ≡ Some q.0
  parent_found p None q h = absurd (cc)
  parent_found p (Some n) q h = ap (λ (z : Name × Text). Some z.0) (ok_same (n, p.1) q h)

  parent_defined : (p : Conditional × Text) (q : Name × Text) → parent_resolved s p ≡ Ok q → is_defined_action s (record { kind = q.0; id = p.1 }) ≡ true
  parent_defined p q h = (found_there (λ n. is_defined_action s (record { kind = n; id = p.1 })) p.0.names q.0 (parent_found p (parent_meant_by s p) q h)).1

-- what fragments declare is written in them
module _ (fs : Fragments) (s : Defined) (has : HasAll fs s) where
  abbrev DeclaredSpace : Type 0
  DeclaredSpace = ValidatorNamespaceDef ConditionalName ConditionalName

  abbrev form_of : DeclaredSpace → AsDeclared
  form_of v = namespace_form conditional_of conditional_of v

  in_space : (n : AsDeclared) → Contains (all_forms fs) n → (m : Name) → Contains (names_in_namespace n) m → Contains (names_in fs) m
  in_space n h m k = flat_has names_in_namespace (all_forms fs) n m h k

  common_there : (n : AsDeclared) → Contains (all_forms fs) n → (c : Name × TypeForm Conditional) → Contains n.commons c → (m : Name) → Contains (names_in_common c) m → Contains (names_in fs) m
  common_there n h c i m k = in_space n h m (Contains-append_left (flat_map names_in_common n.commons) _ m (flat_has names_in_common n.commons c m i k))

  entity_there : (n : AsDeclared) → Contains (all_forms fs) n → (e : Name × EntityForm Conditional) → Contains n.entities e → (m : Name) → Contains (names_in_entity e) m → Contains (names_in fs) m
  entity_there n h e i m k = in_space n h m (Contains-append_right (flat_map names_in_common n.commons) _ m (Contains-append_left (flat_map names_in_entity n.entities) _ m (flat_has names_in_entity n.entities e m i k)))

  action_there : (n : AsDeclared) → Contains (all_forms fs) n → (a : Uid × ActionForm Conditional (Conditional × Text)) → Contains n.actions a → (m : Name) → Contains (names_in_action a) m → Contains (names_in fs) m
  action_there n h a i m k = in_space n h m (Contains-append_right (flat_map names_in_common n.commons) _ m (Contains-append_right (flat_map names_in_entity n.entities) _ m (flat_has names_in_action n.actions a m i k)))

  space_there : (f : ValidatorSchemaFragment ConditionalName ConditionalName) → Contains fs f → (v : DeclaredSpace) → Contains f.0.items v → Contains (all_forms fs) (form_of v)
  space_there f h v k = flat_has (fragment_form conditional_of conditional_of) fs f (form_of v) h (map_has form_of f.0.items v k)

  -- a namespace of which a test holds
  space_of : (test : DeclaredSpace → Bool) → list_any (λ f. list_any test f.0.items) fs ≡ true → (v : DeclaredSpace) × Contains (all_forms fs) (form_of v) × (test v ≡ true)
  space_of test h =
      let f = any_from (λ (g : ValidatorSchemaFragment ConditionalName ConditionalName). list_any test g.0.items) fs h in
      let v = any_from test f.0.0.items f.2 in
      (v.0, space_there f.0 f.1 v.0 v.1, v.2)

  abbrev of_common : InternalName × CommonType ConditionalName → Name × TypeForm Conditional
  of_common e = (name_of e.0, common_form conditional_of e.1)

  abbrev of_entity : InternalName × EntityTypeFragment ConditionalName → Name × EntityForm Conditional
  of_entity e = (name_of e.0, entity_form conditional_of e.1)

  abbrev of_uid : EntityUID × ActionFragment ConditionalName ConditionalName → Uid × ActionForm Conditional (Conditional × Text)
  of_uid e = under_uid conditional_of conditional_of e

  declared_named : (m : Meant) → is_defined s m ≡ true → Contains (names_in fs) (meant_name m)
  declared_named (meant_common n) h =
      let v = space_of (namespace_declares (meant_common n)) (sym (has.types (meant_common n)) ∙ h) in
      let e = map_from (λ (z : InternalName × CommonType ConditionalName). name_of z.0) v.0.common_types.defs.items n ((found-Decides name_eq name_eq-Decides n (common_names v.0.common_types)).0 v.2) in
      common_there (form_of v.0) v.1 (of_common e.0) (map_has of_common v.0.common_types.defs.items e.0 e.1) n (subst (Contains (names_in_common (of_common e.0))) e.2 (contains_head (name_of e.0.0) _))
  declared_named (meant_entity n) h =
      let v = space_of (namespace_declares (meant_entity n)) (sym (has.types (meant_entity n)) ∙ h) in
      let e = map_from (λ (z : InternalName × EntityTypeFragment ConditionalName). name_of z.0) v.0.entity_types.defs.items n ((found-Decides name_eq name_eq-Decides n (entity_names v.0.entity_types)).0 v.2) in
      entity_there (form_of v.0) v.1 (of_entity e.0) (map_has of_entity v.0.entity_types.defs.items e.0 e.1) n (subst (Contains (names_in_entity (of_entity e.0))) e.2 (contains_head (name_of e.0.0) _))

  action_named : (u : Uid) → is_defined_action s u ≡ true → Contains (names_in fs) u.kind
  action_named u h =
      let v = space_of (namespace_declares_action u) (sym (has.actions u) ∙ h) in
      let e = map_from (λ (z : EntityUID × ActionFragment ConditionalName ConditionalName). uid_of z.0) v.0.actions.actions.items u ((found-Decides uid_eq uid_eq-Decides u (action_uids v.0.actions)).0 v.2) in
      action_there (form_of v.0) v.1 (of_uid e.0) (map_has of_uid v.0.actions.actions.items e.0 e.1) u.kind (subst (λ w. Contains (names_in_action (of_uid e.0)) w.kind) e.2 (contains_head (uid_of e.0.0).kind _))

  -- what stands in what is resolved
  module _ (gs : List (List AsResolved)) (h : all_resolved s fs ≡ Ok gs) where
    extension_named : (n : Name) → Contains (extensions_named (commons_of (all_of gs)) (entities_of (all_of gs)) (actions_of (all_of gs))) n → Contains (names_in fs) n
    extension_named n c =
        ⊎_elim
        (λ i. let p = flat_from (λ (z : Name × TypeForm Name). extensions_of z.1) (commons_of (all_of gs)) n i in
        let q = common_from s fs gs h p.0 p.1 in
        common_there q.0 q.1 q.2.0 q.2.1 n (contains_tail q.2.0.0 _ n (extension_kept s q.2.0.1 p.0.1 q.2.3 n p.2)))
        (λ j. ⊎_elim
        (λ i. let p = flat_from (λ (z : Name × EntityForm Name). flat_map extensions_of (types_in z.1)) (entities_of (all_of gs)) n i in
        let t = flat_from extensions_of (types_in p.0.1) n p.2 in
        let q = entity_from s fs gs h p.0 p.1 in
        entity_there q.0 q.1 q.2.0 q.2.1 n (contains_tail q.2.0.0 _ n (kind_kept s q.2.0.1 p.0.1 q.2.3 t.0 t.1 n t.2)))
        (λ i. let p = flat_from (λ (z : Uid × ActionForm Name (Name × Text)). extensions_of z.1.context) (actions_of (all_of gs)) n i in
        let q = action_from s fs gs h p.0 p.1 in
        let k : ActionMade s q.2.0.1 p.0.1 = action_made s q.2.0.1 p.0.1 q.2.3 in
        action_there q.0 q.1 q.2.0 q.2.1 n (contains_tail q.2.0.0.kind _ n
        (Contains-append_right (parents_as_written q.2.0.1.parents) _ n (Contains-append_right (as_written q.2.0.1.principals) _ n (Contains-append_right (as_written q.2.0.1.resources) _ n (extension_kept s q.2.0.1.context p.0.1.context k.context n p.2))))))
        (Contains-append_cases (flat_map (λ (z : Name × EntityForm Name). flat_map extensions_of (types_in z.1)) (entities_of (all_of gs))) _ n j))
        (Contains-append_cases (flat_map (λ (z : Name × TypeForm Name). extensions_of z.1) (commons_of (all_of gs))) _ n c)

    entity_named : (n : Name) → Contains (names_of_entities (entities_of (all_of gs))) n → Contains (names_in fs) n
    entity_named n c =
        let p = map_from (λ (z : Name × EntityForm Name). z.0) (entities_of (all_of gs)) n c in
        let q = entity_from s fs gs h p.0 p.1 in
        entity_there q.0 q.1 q.2.0 q.2.1 n (subst (Contains (names_in_entity q.2.0)) (sym q.2.2 ∙ p.2) (contains_head q.2.0.0 _))

    parent_named : (n : Name) → Contains (flat_map parent_kinds (actions_of (all_of gs))) n → Contains (names_in fs) n
    parent_named n c =
        let p = flat_from parent_kinds (actions_of (all_of gs)) n c in
        let q = action_from s fs gs h p.0 p.1 in
        let k : ActionMade s q.2.0.1 p.0.1 = action_made s q.2.0.1 p.0.1 q.2.3 in
        let r = map_from (λ (z : Name × Text). z.0) p.0.1.parents n p.2 in
        let u = each_from (parent_resolved s) q.2.0.1.parents p.0.1.parents k.parents r.0 r.1 in
        subst (Contains (names_in fs)) r.2 (action_named (record { kind = r.0.0; id = u.0.1 }) (parent_defined s u.0 r.0 u.2))

    pub reserved_is_written : (n : Name) → IsReservedOfForms s (commons_of (all_of gs)) (entities_of (all_of gs)) (actions_of (all_of gs)) n → Contains (names_in fs) n × (is_reserved n ≡ true)
    reserved_is_written n r =
        (⊎_elim (λ i. declared_named (meant_entity n) i) (λ j. ⊎_elim (λ i. entity_named n i) (λ k. ⊎_elim (λ i. parent_named n i) (λ i. extension_named n i) k) j) r.1, r.0)

  -- what is refused when names are resolved
  unreserved_refused : (m n : Name) → unreserved m ≡ Err (reserved_type n) → (m ≡ n) × (is_reserved m ≡ true)
  unreserved_refused m n h = go (is_reserved m) refl h
    where
      same : (q : Name) → cond true (Err (reserved_type m)) (Ok q) ≡ Err (reserved_type n) → m ≡ n
      same q e = cc

      go : (b : Bool) → is_reserved m ≡ b → cond b (Err (reserved_type m)) (Ok m) ≡ Err (reserved_type n) → (m ≡ n) × (is_reserved m ≡ true)
      go true e k = (same m k, e)
      go false e k = absurd (cc)

  no_type_only : {A : Type 0} (o : Result A Conditional) (n : Name) → of_types o ≡ Err (reserved_type n) → ⊥
  no_type_only (Ok x) n h = absurd (cc)
  no_type_only (Err c) n h = absurd (cc)

  resolved_defined : (c : Conditional) (o : Option Meant) (m : Name) → meant_by s c ≡ o → option_map_or (λ k. Ok (meant_name k)) o (Err c) ≡ Ok m → Contains (names_in fs) m
  resolved_defined c None m e h = absurd (cc)
  resolved_defined c (Some k) m e h = subst (Contains (names_in fs)) (ok_same (meant_name k) m h) (declared_named k (found_there (is_defined s) (may_mean c) k e).1)

  entity_refused : (n : Name) (c : Conditional) → entity_resolved s c ≡ Err (reserved_type n) → Contains (names_in fs) n × (is_reserved n ≡ true)
  entity_refused n c h =
      ⊎_elim
      (λ e. absurd (no_type_only (resolved s c) n e))
      (λ k. let u = unreserved_refused k.0 n k.2 in
      (subst (Contains (names_in fs)) u.0 (resolved_defined c (meant_by s c) k.0 refl (of_types_made (resolved s c) k.0 k.1)), subst (λ z. is_reserved z ≡ true) u.0 u.1))
      (bind_refused unreserved (of_types (resolved s c)) (reserved_type n) h)

  entities_refused : (n : Name) (cs : List Conditional) → each (entity_resolved s) cs ≡ Err (reserved_type n) → Contains (names_in fs) n × (is_reserved n ≡ true)
  entities_refused n cs h = let c = each_refused (entity_resolved s) cs (reserved_type n) h in entity_refused n c.0 c.2

  parent_not : (p : Conditional × Text) (o : Option Name) (n : Name) → option_map_or {U = Result (Name × Text) Refusal} (λ m. Ok (m, p.1)) o (Err (no_action p)) ≡ Err (reserved_type n) → ⊥
  parent_not p None n h = absurd (cc)
  parent_not p (Some m) n h = absurd (cc)

  action_refused : (n : Name) (a : ActionForm Conditional (Conditional × Text)) → action_resolved s a ≡ Err (reserved_type n) → Contains (names_in fs) n × (is_reserved n ≡ true)
  action_refused n a h =
      let parents = each (parent_resolved s) a.parents in
      let context = context_resolved s a.context in
      ⊎_elim
      (λ e. ⊎_elim
      (λ i. entities_refused n a.principals i)
      (λ k. entities_refused n a.resources (last_refused (λ rs. (k.0, rs)) (each (entity_resolved s) a.resources) (reserved_type n) k.2))
      (bind_refused (λ ps. and_then (λ rs. Ok (ps, rs)) (each (entity_resolved s) a.resources)) (each (entity_resolved s) a.principals) (reserved_type n) e))
      (λ k. ⊎_elim
      (λ e. absurd (no_type_only (requalified (resolving s) a.context) n e))
      (λ m. let p = each_refused (parent_resolved s) a.parents (reserved_type n) (last_refused (λ us. of_action s a k.0 m.0 us) parents (reserved_type n) m.2) in absurd (parent_not p.0 (parent_meant_by s p.0) n p.2))
      (bind_refused (λ t. and_then (λ us. Ok (of_action s a k.0 t us)) parents) context (reserved_type n) k.2))
      (bind_refused (λ applied. and_then (λ t. and_then (λ us. Ok (of_action s a applied t us)) parents) context) (applied_resolved s (a.principals, a.resources)) (reserved_type n) h)

  abbrev of_space : AsDeclared → CommonForms → EntityForms → ActionForms → AsResolved
  of_space w cs es us = record { namespace = w.namespace; commons = cs; entities = es; actions = us }

  space_refused : (n : Name) (v : AsDeclared) → namespace_resolved s v ≡ Err (reserved_type n) → Contains (names_in fs) n × (is_reserved n ≡ true)
  space_refused n v h =
      let actions = each (with_uid (action_resolved s)) v.actions in
      ⊎_elim
      (λ e. absurd (no_type_only (commons_resolved s v.commons) n e))
      (λ k. ⊎_elim
      (λ e. absurd (no_type_only (entities_resolved s v.entities) n e))
      (λ m.
      let a = each_refused (with_uid (action_resolved s)) v.actions (reserved_type n) (last_refused (λ us. of_space v k.0 m.0 us) actions (reserved_type n) m.2) in
      action_refused n a.0.1 (last_refused (λ y. (a.0.0, y)) (action_resolved s a.0.1) (reserved_type n) a.2))
      (bind_refused (λ es. and_then (λ us. Ok (of_space v k.0 es us)) actions) (of_types (entities_resolved s v.entities)) (reserved_type n) k.2))
      (bind_refused (λ cs. and_then (λ es. and_then (λ us. Ok (of_space v cs es us)) actions) (of_types (entities_resolved s v.entities))) (of_types (commons_resolved s v.commons)) (reserved_type n) h)

  pub refused_is_written : (n : Name) → all_resolved s fs ≡ Err (reserved_type n) → Contains (names_in fs) n × (is_reserved n ≡ true)
  refused_is_written n h =
      let v = each_refused (namespace_resolved s) (all_forms fs) (reserved_type n) (each_flat (namespace_resolved s) (fragment_form conditional_of conditional_of) fs ∙ ap (and_then (λ yss. Ok (flat_map (λ ys. ys) yss))) h) in
      space_refused n v.0 v.2
