-- What resolving all fragments refuses, and what checks find, is named as the declarations write it.
use Rattle.std.proofs.Common.{◌≡◌, Bool, true, false, cond, List, [], ◌∷◌, map, Option, Some, None, Ok, Err, IfErr, find, refl, sym, ap, ◌∙◌, subst}
use Rattle.std.proofs.lemmas.List.Elements.{Contains-append_left, Contains-append_right}
use Rattle.std.proofs.lemmas.Slice.Eq.{bytes_eq-Decides}
use Rattle.std.specs.Prelude.{Contains, is_none}
use Rattle.std.specs.List.{flat_map}
use Rattle.std.specs.Option.{option_map_or}
use Rattle.cedar_expr_model.specs.Name.{Text, Name, is_reserved}
use Rattle.cedar_expr_model.specs.Names.{possibilities}
use Rattle.cedar_expr_model.proofs.Lists.{contains_head, contains_tail, map_has, map_from, flat_has, flat_from}
use Rattle.cedar_expr_leaves.specs.declared.conditional_name.ConditionalName.{ConditionalName}
use Rattle.cedar_schema_model.specs.Declarations.{EntityDeclaration, Declarations, entity_name, parent_meant, to_entities, references_of_common, references_of_entity, references_of_action, references}
use Rattle.cedar_schema_model.specs.Reference.{to_entity, Reference, action_word}
use Rattle.cedar_schema_decl.specs.Conditional.{Conditional, conditional_in, conditional_of}
use Rattle.cedar_schema_decl.specs.Defined.{Defined, is_defined_action, resolving}
use Rattle.cedar_schema_decl.specs.Forms.{TypeForm, EntityForm, ActionForm}
use Rattle.cedar_schema_decl.specs.Laws.{HasDeclared, NamesMeanReferences, RefusedWhereUndeclared, namespace_parts}
use Rattle.cedar_schema_decl.specs.Requalified.{and_then, requalified, requalified_entity, under_name, each}
use Rattle.cedar_schema_fragments.proofs.Wholes.{whole, wholes_are}
use Rattle.cedar_schema_fragments.specs.Laws.{HasActions}
use Rattle.cedar_schema_fragments.specs.Namespaces.{fragment_form}
use Rattle.cedar_schema_fragments.specs.Qualified.{parent_with, common_qualified, entity_qualified, action_qualified, type_with}
use Rattle.cedar_schema_fragments.specs.Refusals.{Refusal, no_action}
use Rattle.cedar_schema_fragments.specs.Resolved.{entity_resolved, parent_resolved, context_resolved, action_resolved, with_uid, applied_resolved, commons_resolved, entities_resolved, namespace_resolved}
use Rattle.cedar_schema_fragments.specs.Written.{WrittenNamespace}
use Rattle.cedar_schema_fragments.specs.WrittenDeclarations.{common_declaration, entity_declaration, action_declaration, as_uid, declared_in, declarations_of, all_forms, AreWritten}
use Rattle.cedar_schema_fragments.specs.declared.namespace_def.ValidatorSchemaFragment.{ValidatorSchemaFragment}
use Rattle.cedar_schema_builder.proofs.NamesResolved.{named_bind, named_last, named_each, named_types, common_named, entity_named, listed_named, context_named}
use Rattle.cedar_schema_builder.proofs.NamesWritten.{names_are_written}
use Rattle.cedar_schema_builder.proofs.Outcomes.{each_flat}
use Rattle.cedar_schema_builder.proofs.Told.{parent_lacks}
use Rattle.cedar_schema_builder.specs.AllResolved.{all_resolved}
use Rattle.cedar_schema_builder.specs.Checked.{is_action_word}
use Rattle.cedar_schema_builder.specs.GatheredNamed.{IsUndeclared, IsReservedThere, IsActionType, NamesRefused}
use Rattle.cedar_schema_builder.specs.WrittenNames.{names_in, entities_of, entities_named}

none_is : {A : Type 0} (o : Option A) → is_none o ≡ true → o ≡ None
none_is None h = refl
none_is (Some x) h = absurd (cc)

module _ (mean : NamesMeanReferences) (undeclared : RefusedWhereUndeclared) (s : Defined) (d : Declarations) (has : HasDeclared s d) (actions : HasActions s d) where
  -- an action that is declared
  module _ (space : Option Name) (a : Text × ActionForm Name (Name × Text)) (there : Contains d.actions (action_declaration space a)) where
    refers : (r : Reference) → Contains (references_of_action (action_declaration space a)) r → Contains (references d) r
    refers r k = Contains-append_right (flat_map references_of_common d.commons) _ r (Contains-append_right (flat_map references_of_entity d.entities) _ r (flat_has references_of_action d.actions (action_declaration space a) r there k))

    parent_named : (p : Name × Text) → Contains a.1.parents p → IfErr (parent_resolved s (parent_with (conditional_in space) p)) (NamesRefused d)
    parent_named p k = go (find (λ n. is_defined_action s (record { kind = n; id = p.1 })) (possibilities space p.0)) (sym (parent_lacks mean undeclared s d has actions space p))
      where
        go : (o : Option Name) → is_none (parent_meant d (namespace_parts space) (as_uid p)) ≡ is_none o → IfErr {T = Name × Text} (option_map_or (λ n. Ok (n, p.1)) o (Err (no_action (parent_with (conditional_in space) p)))) (NamesRefused d)
        go None e = (action_declaration space a, there, (as_uid p, map_has as_uid a.1.parents p k, (space, refl, refl), refl, none_is (parent_meant d (namespace_parts space) (as_uid p)) e))
        go (Some n) e = tt

    resolved_named : IfErr (action_resolved s (action_qualified space a).1) (NamesRefused d)
    resolved_named =
        let P = a.1.principals in
        let R = a.1.resources in
        named_bind (NamesRefused d) (applied_resolved s (map (conditional_in space to_entity) P, map (conditional_in space to_entity) R)) _
        (named_bind (NamesRefused d) (each (entity_resolved s) (map (conditional_in space to_entity) P)) _
        (listed_named mean s d has space P (λ q k. refers q (Contains-append_left (to_entities (namespace_parts space) P) _ q k)))
        (λ ps. named_last (NamesRefused d) (each (entity_resolved s) (map (conditional_in space to_entity) R)) (λ rs. (ps, rs))
        (listed_named mean s d has space R (λ q k. refers q (Contains-append_right (to_entities (namespace_parts space) P) _ q (Contains-append_left (to_entities (namespace_parts space) R) _ q k))))))
        (λ applied. named_bind (NamesRefused d) (context_resolved s (type_with (conditional_in space) a.1.context)) _
        (context_named mean s d has space a.1.context (λ q k. refers q (Contains-append_right (to_entities (namespace_parts space) P) _ q (Contains-append_right (to_entities (namespace_parts space) R) _ q k))))
        (λ t. named_last (NamesRefused d) (each (parent_resolved s) (map (parent_with (conditional_in space)) a.1.parents)) _
        (named_each (NamesRefused d) (parent_resolved s) (parent_with (conditional_in space)) a.1.parents parent_named)))

    action_named : IfErr (with_uid (action_resolved s) (action_qualified space a)) (NamesRefused d)
    action_named = named_last (NamesRefused d) (action_resolved s (action_qualified space a).1) (λ y. ((action_qualified space a).0, y)) resolved_named

  -- what a namespace declares is declared
  module _ (ws : List WrittenNamespace) (declares : d ≡ declarations_of ws) where
    module _ (w : WrittenNamespace) (there : Contains ws w) where
      common_there : (c : Text × TypeForm Name) → Contains w.commons c → Contains d.commons (common_declaration w.namespace c)
      common_there c k =
          subst (λ e. Contains e.commons (common_declaration w.namespace c)) (sym declares)
          (flat_has (λ (e : Declarations). e.commons) (map declared_in ws) (declared_in w) (common_declaration w.namespace c) (map_has declared_in ws w there) (map_has (common_declaration w.namespace) w.commons c k))

      entity_there : (t : Text × EntityForm Name) → Contains w.entities t → Contains d.entities (entity_declaration w.namespace t)
      entity_there t k =
          subst (λ e. Contains e.entities (entity_declaration w.namespace t)) (sym declares)
          (flat_has (λ (e : Declarations). e.entities) (map declared_in ws) (declared_in w) (entity_declaration w.namespace t) (map_has declared_in ws w there) (map_has (entity_declaration w.namespace) w.entities t k))

      action_there : (a : Text × ActionForm Name (Name × Text)) → Contains w.actions a → Contains d.actions (action_declaration w.namespace a)
      action_there a k =
          subst (λ e. Contains e.actions (action_declaration w.namespace a)) (sym declares)
          (flat_has (λ (e : Declarations). e.actions) (map declared_in ws) (declared_in w) (action_declaration w.namespace a) (map_has declared_in ws w there) (map_has (action_declaration w.namespace) w.actions a k))

      commons_named : IfErr (commons_resolved s (map (common_qualified w.namespace) w.commons)) (IsUndeclared d)
      commons_named = named_each (IsUndeclared d) (under_name (requalified (resolving s))) (common_qualified w.namespace) w.commons
          (λ c k. common_named mean s d has w.namespace c (λ r q. Contains-append_left (flat_map references_of_common d.commons) _ r (flat_has references_of_common d.commons (common_declaration w.namespace c) r (common_there c k) q)))

      entities_named_so : IfErr (entities_resolved s (map (entity_qualified w.namespace) w.entities)) (IsUndeclared d)
      entities_named_so = named_each (IsUndeclared d) (under_name (requalified_entity (resolving s))) (entity_qualified w.namespace) w.entities
          (λ t k. entity_named mean s d has w.namespace t (λ r q. Contains-append_right (flat_map references_of_common d.commons) _ r (Contains-append_left (flat_map references_of_entity d.entities) _ r (flat_has references_of_entity d.entities (entity_declaration w.namespace t) r (entity_there t k) q))))

      namespace_named : IfErr (namespace_resolved s (whole w)) (NamesRefused d)
      namespace_named =
          named_bind (NamesRefused d) _ _ (named_types (NamesRefused d) (commons_resolved s (map (common_qualified w.namespace) w.commons)) commons_named)
          (λ cs. named_bind (NamesRefused d) _ _ (named_types (NamesRefused d) (entities_resolved s (map (entity_qualified w.namespace) w.entities)) entities_named_so)
          (λ es. named_last (NamesRefused d) (each (with_uid (action_resolved s)) (map (action_qualified w.namespace) w.actions)) _
          (named_each (NamesRefused d) (with_uid (action_resolved s)) (action_qualified w.namespace) w.actions (λ a k. action_named w.namespace a (action_there a k)))))

  module _ (fs : List (ValidatorSchemaFragment ConditionalName ConditionalName)) (w : AreWritten fs d) where
    all_named : IfErr (each (namespace_resolved s) (all_forms fs)) (NamesRefused d)
    all_named =
        subst (λ ns. IfErr (each (namespace_resolved s) ns) (NamesRefused d)) (sym (wholes_are w.namespaces (all_forms fs) w.qualifies))
        (named_each (NamesRefused d) (namespace_resolved s) whole w.namespaces (λ v k. namespace_named w.namespaces w.declares v k))

    pub refusal_named : (r : Refusal) → all_resolved s fs ≡ Err r → NamesRefused d r
    refusal_named r h = subst (λ o. IfErr o (NamesRefused d)) (each_flat (namespace_resolved s) (fragment_form conditional_of conditional_of) fs ∙ ap (and_then (λ yss. Ok (flat_map (λ ys. ys) yss))) h) all_named

-- what is found is there, and passes
pub found_there : {A : Type 0} (p : A → Bool) (xs : List A) (y : A) → find p xs ≡ Some y → Contains xs y × (p y ≡ true)
found_there p [] y h = absurd (cc)
found_there {A} p (x ∷ xs) y h = go (found_there p xs y) (p x) refl h
  where
    same : Some x ≡ Some y → x ≡ y
    same e = cc

    go : (find p xs ≡ Some y → Contains xs y × (p y ≡ true)) → (b : Bool) → p x ≡ b → cond b (Some x) (find p xs) ≡ Some y → Contains (x ∷ xs) y × (p y ≡ true)
    go later true e k = subst (λ (z : A). Contains (x ∷ xs) z × (p z ≡ true)) (same k) (contains_head x xs, e)
    go later false e k = let r = later k in (contains_tail x xs y r.0, r.1)

module _ (fs : List (ValidatorSchemaFragment ConditionalName ConditionalName)) (d : Declarations) (w : AreWritten fs d) where
  pub reserved_there : (n : Name) → find is_reserved (names_in fs) ≡ Some n → IsReservedThere d n
  reserved_there n h = let r = found_there is_reserved (names_in fs) n h in ((names_are_written fs d w n).0 r.0, r.1)

  under_name_of : (space : Option Name) (t : Text × EntityForm Name) (p : Name × EntityForm Conditional) (n : Name) → entity_qualified space t ≡ p → p.0 ≡ n → entity_name (entity_declaration space t) ≡ n
  under_name_of space t p n e k = ap (λ (z : Name × EntityForm Conditional). z.0) e ∙ k

  declared_under : (ws : List WrittenNamespace) (n : Name) → Contains (flat_map entities_of (map whole ws)) n → (t : EntityDeclaration) × Contains (declarations_of ws).entities t × (entity_name t ≡ n)
  declared_under ws n h =
      let v = flat_from entities_of (map whole ws) n h in
      let u = map_from whole ws v.0 v.1 in
      let p = map_from (λ (t : Name × EntityForm Conditional). t.0) (map (entity_qualified u.0.namespace) u.0.entities) n (subst (λ z. Contains (entities_of z) n) (sym u.2) v.2) in
      let t = map_from (entity_qualified u.0.namespace) u.0.entities p.0 p.1 in (
        entity_declaration u.0.namespace t.0,
        flat_has (λ (e : Declarations). e.entities) (map declared_in ws) (declared_in u.0) (entity_declaration u.0.namespace t.0) (map_has declared_in ws u.0 u.1) (map_has (entity_declaration u.0.namespace) u.0.entities t.0 t.1),
        under_name_of u.0.namespace t.0 p.0 n t.2 p.2,
      )

  pub action_type_there : (n : Name) → find is_action_word (entities_named fs) ≡ Some n → IsActionType d n
  action_type_there n h =
      let r = found_there is_action_word (entities_named fs) n h in
      let t = declared_under w.namespaces n (subst (λ ns. Contains (flat_map entities_of ns) n) (wholes_are w.namespaces (all_forms fs) w.qualifies) r.0) in
      (t.0, subst (λ e. Contains e.entities t.0) (sym w.declares) t.1, t.2, (bytes_eq-Decides action_word n.base).0 r.1 ∙ ap (λ (m : Name). m.base) (sym t.2))
