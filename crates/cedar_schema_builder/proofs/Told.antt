-- What resolving all fragments tells of the declarations that they write.
use Rattle.std.proofs.Common.{◌≡◌, Bool, true, false, cond, ◌||◌, List, [], ◌∷◌, ◌++◌, map, Option, Some, None, Ok, Err, find, refl, sym, ap, ◌∙◌, subst}
use Rattle.std.proofs.lemmas.Bool.{true≢false}
use Rattle.std.proofs.lemmas.List.Folds.{list_any-append}
use Rattle.std.proofs.lemmas.List.Elements.{Contains-append_left, Contains-append_right}
use Rattle.std.specs.Prelude.{Contains, is_none}
use Rattle.std.specs.List.{flat_map, list_any}
use Rattle.std.specs.Option.{option_map_or}
use Rattle.cedar_expr_model.specs.Name.{Text, Name, name_eq, is_reserved}
use Rattle.cedar_expr_model.specs.Uid.{Uid}
use Rattle.cedar_expr_model.proofs.Equality.{name_eq-Decides}
use Rattle.cedar_expr_model.proofs.Lists.{found-Decides}
use Rattle.cedar_expr_model.specs.Names.{possibilities}
use Rattle.cedar_schema_model.proofs.Decls.Faults.{schema_fault-Decides, meant_is_declared}
use Rattle.cedar_schema_model.specs.BagLaws.{HasSchemaFault}
use Rattle.cedar_schema_model.specs.Declarations.{Declarations, ActionDeclaration, common_names, entity_names, is_declared, is_declared_action, meant, parent_meant, references_in, to_entities, references_of_common, references_of_entity, references_of_action, references}
use Rattle.cedar_schema_model.specs.Reference.{to_entity, Reference, Meant, meant_common, meant_entity, places}
use Rattle.cedar_schema_model.specs.WellFormed.{undeclared_type, undeclared_action, has_schema_fault, written_names}
use Rattle.cedar_schema_decl.specs.Conditional.{conditional_in, conditional_of}
use Rattle.cedar_schema_decl.specs.Defined.{Defined, is_defined_action, meant_by, meant_name}
use Rattle.cedar_schema_decl.specs.Forms.{TypeForm, ActionForm}
use Rattle.cedar_schema_decl.specs.Laws.{HasDeclared, NamesMeanReferences, RefusedWhereUndeclared, namespace_parts, as_expr}
use Rattle.cedar_schema_decl.specs.Requalified.{and_then, each}
use Rattle.cedar_schema_fragments.proofs.Anys.{or_none, or_right, any_none, any_or3, any_map, any_flat}
use Rattle.cedar_schema_fragments.proofs.Wholes.{whole, wholes_are}
use Rattle.cedar_schema_fragments.specs.Laws.{HasActions}
use Rattle.cedar_schema_fragments.specs.Namespaces.{NamespaceForm, fragment_form}
use Rattle.cedar_schema_fragments.specs.Qualified.{type_with, parent_with, common_qualified, entity_qualified, action_qualified}
use Rattle.cedar_schema_fragments.specs.Refusals.{Refusal, no_type, no_action, reserved_type}
use Rattle.cedar_schema_fragments.specs.Resolved.{of_types, unreserved, entity_resolved, applied_resolved, parent_resolved, context_resolved, action_resolved, with_uid, commons_resolved, entities_resolved, namespace_resolved}
use Rattle.cedar_schema_fragments.specs.Written.{WrittenNamespace}
use Rattle.cedar_schema_fragments.specs.WrittenDeclarations.{common_declaration, entity_declaration, action_declaration, as_uid, declarations_of, all_forms, AreWritten}
use Rattle.cedar_schema_fragments.specs.declared.namespace_def.ValidatorSchemaFragment.{ValidatorSchemaFragment}
use Rattle.cedar_expr_leaves.specs.declared.conditional_name.ConditionalName.{ConditionalName}
use Rattle.cedar_schema_builder.proofs.OfKind.{of_commons, of_entities, of_actions}
use Rattle.cedar_schema_builder.proofs.Outcomes.{Tells, Told, told_bind, told_last, told_types, told_each, each_flat}
use Rattle.cedar_schema_builder.proofs.Refused.{lacks, referred, type_refused, listed_lacks, commons_refused, entities_refused}
use Rattle.cedar_schema_builder.specs.AllResolved.{all_resolved}
use Rattle.cedar_schema_builder.specs.GatheredLaws.{fault_told}

-- whether one is found, by tests that agree, among what is made of a list, and in a list of which the first stands twice
lacking_alike : {A : Type 0} (p q : A → Bool) → ((x : A) → p x ≡ q x) → (xs : List A) → is_none (find p xs) ≡ is_none (find q xs)
lacking_alike p q h [] = refl
lacking_alike p q h (x ∷ xs) = ap (λ b. is_none (cond b (Some x) (find p xs))) (h x) ∙ go (q x) (lacking_alike p q h xs)
  where
    go : (b : Bool) → is_none (find p xs) ≡ is_none (find q xs) → is_none (cond b (Some x) (find p xs)) ≡ is_none (cond b (Some x) (find q xs))
    go true e = refl
    go false e = e

lacking_map : {A B : Type 0} (p : B → Bool) (f : A → B) (xs : List A) → is_none (find p (map f xs)) ≡ is_none (find (λ x. p (f x)) xs)
lacking_map p f [] = refl
lacking_map p f (x ∷ xs) = go (p (f x)) (lacking_map p f xs)
  where
    go : (b : Bool) → is_none (find p (map f xs)) ≡ is_none (find (λ y. p (f y)) xs) → is_none (cond b (Some (f x)) (find p (map f xs))) ≡ is_none (cond b (Some x) (find (λ y. p (f y)) xs))
    go true e = refl
    go false e = e

twice : {A : Type 0} (b : Bool) (x y : A) → is_none (cond b (Some x) None) ≡ is_none (cond b (Some x) (cond b (Some x) None))
twice true x y = refl
twice false x y = refl

abbrev of_parts : List Text → Text → Name
of_parts path base = record { path = path; base = base }

lacking_places : (q : Name → Bool) (space : Option Name) (path : List Text) (base : Text) → is_none (find q (possibilities space (of_parts path base))) ≡ is_none (find q (places (namespace_parts space) (of_parts path base)))
lacking_places q None [] base = twice (q (of_parts [] base)) (of_parts [] base) (of_parts [] base)
lacking_places q None (x ∷ path) base = refl
lacking_places q (Some n) [] base = refl
lacking_places q (Some n) (x ∷ path) base = refl

module _ (mean : NamesMeanReferences) (undeclared : RefusedWhereUndeclared) (s : Defined) (d : Declarations) (has : HasDeclared s d) (actions : HasActions s d) where
  -- a reserved name that is written
  abbrev IsWrong : Name → Type 0
  IsWrong n = Contains (written_names d) n × (is_reserved n ≡ true)

  abbrev missing : Reference → Bool
  missing = lacks mean undeclared s d has

  among_declared : (m : Meant) → is_declared d m ≡ true → Contains (written_names d) (meant_name m)
  among_declared (meant_common n) h = Contains-append_left (common_names d) _ n ((found-Decides name_eq name_eq-Decides n (common_names d)).0 h)
  among_declared (meant_entity n) h = Contains-append_right (common_names d) _ n (Contains-append_left (entity_names d) _ n ((found-Decides name_eq name_eq-Decides n (entity_names d)).0 h))

  module _ (space : Option Name) where
    abbrev reference_of : Name → Reference
    reference_of n = referred mean undeclared s d has space to_entity n

    -- a name of an entity type
    plain_told : (n : Name) → (is_reserved n ≡ true → IsWrong n) → Told IsWrong (unreserved n) false false
    plain_told n h = go (is_reserved n) h
      where
        go : (b : Bool) → (b ≡ true → IsWrong n) → Told IsWrong (cond b (Err (reserved_type n)) (Ok n)) false false
        go true k = k refl
        go false k = (refl, refl)

    entity_told : (n : Name) → Told IsWrong (entity_resolved s (conditional_in space to_entity n)) (missing (reference_of n)) false
    entity_told n = go (meant_by s (conditional_in space to_entity n)) (sym (mean s d has space to_entity n))
      where
        go : (o : Option Meant) → meant d (reference_of n) ≡ o → Told IsWrong (and_then unreserved (of_types (option_map_or (λ m. Ok (meant_name m)) o (Err (conditional_in space to_entity n))))) (missing (reference_of n)) false
        go None e = ap is_none e
        go (Some m) e = subst (λ b. Told IsWrong (unreserved (meant_name m)) b false) (sym (ap is_none e)) (plain_told (meant_name m) (λ r. (among_declared m (meant_is_declared d (reference_of n) m e), r)))

    listed_told : (ns : List Name) → Told IsWrong (each (entity_resolved s) (map (conditional_in space to_entity) ns)) (list_any missing (to_entities (namespace_parts space) ns)) false
    listed_told ns =
        subst (λ b. Told IsWrong (each (entity_resolved s) (map (conditional_in space to_entity) ns)) b false) (listed_lacks mean undeclared s d has space ns)
        (subst (Told IsWrong (each (entity_resolved s) (map (conditional_in space to_entity) ns)) (list_any (λ n. missing (reference_of n)) ns)) (any_none ns)
        (told_each IsWrong (entity_resolved s) (conditional_in space to_entity) (λ n. missing (reference_of n)) (λ n. false) entity_told ns))

    -- a parent of an action
    abbrev parent_missing : Name × Text → Bool
    parent_missing p = is_none (parent_meant d (namespace_parts space) (as_uid p))

    abbrev with_id : Text → Name → Uid
    with_id id n = record { kind = n; id = id }

    pub parent_lacks : (p : Name × Text) → is_none (find (λ n. is_defined_action s (with_id p.1 n)) (possibilities space p.0)) ≡ parent_missing p
    parent_lacks p =
        lacking_alike (λ n. is_defined_action s (with_id p.1 n)) (λ n. is_declared_action d (with_id p.1 n)) (λ n. actions (with_id p.1 n)) (possibilities space p.0)
        ∙ lacking_places (λ n. is_declared_action d (with_id p.1 n)) space p.0.path p.0.base
        ∙ sym (lacking_map (is_declared_action d) (with_id p.1) (places (namespace_parts space) p.0))

    parent_told : (p : Name × Text) → Told IsWrong (parent_resolved s (parent_with (conditional_in space) p)) false (parent_missing p)
    parent_told p = go (find (λ n. is_defined_action s (with_id p.1 n)) (possibilities space p.0)) (sym (parent_lacks p))
      where
        go : (o : Option Name) → parent_missing p ≡ is_none o → Told IsWrong {A = Name × Text} (option_map_or (λ n. Ok (n, p.1)) o (Err (no_action (parent_with (conditional_in space) p)))) false (parent_missing p)
        go None e = e
        go (Some n) e = (refl, e)

    abbrev parents_missing : List (Name × Text) → Bool
    parents_missing ps = list_any (λ u. is_none (parent_meant d (namespace_parts space) u)) (map as_uid ps)

    parents_told : (ps : List (Name × Text)) → Told IsWrong (each (parent_resolved s) (map (parent_with (conditional_in space)) ps)) false (parents_missing ps)
    parents_told ps =
        subst (Told IsWrong (each (parent_resolved s) (map (parent_with (conditional_in space)) ps)) false) (sym (any_map (λ u. is_none (parent_meant d (namespace_parts space) u)) as_uid ps))
        (subst (λ b. Told IsWrong (each (parent_resolved s) (map (parent_with (conditional_in space)) ps)) b (list_any parent_missing ps)) (any_none ps)
        (told_each IsWrong (parent_resolved s) (parent_with (conditional_in space)) (λ p. false) parent_missing parent_told ps))

    context_told : (t : TypeForm Name) → Told IsWrong (context_resolved s (type_with (conditional_in space) t)) (list_any missing (references_in (namespace_parts space) (as_expr t))) false
    context_told t = told_types IsWrong _ _ (type_refused mean undeclared s d has space t)

    -- an action
    abbrev action_missing : Text × ActionForm Name (Name × Text) → Bool
    action_missing a = list_any missing (references_of_action (action_declaration space a))

    abbrev action_parents_missing : Text × ActionForm Name (Name × Text) → Bool
    action_parents_missing a = list_any (λ u. is_none (parent_meant d (namespace_parts space) u)) (action_declaration space a).parents

    applied_told : (ps rs : List Name) → Told IsWrong (applied_resolved s (map (conditional_in space to_entity) ps, map (conditional_in space to_entity) rs)) (list_any missing (to_entities (namespace_parts space) ps) || list_any missing (to_entities (namespace_parts space) rs)) false
    applied_told ps rs =
        told_bind IsWrong (each (entity_resolved s) (map (conditional_in space to_entity) ps)) _ _ false _ false (listed_told ps)
        (λ qs. told_last IsWrong (each (entity_resolved s) (map (conditional_in space to_entity) rs)) (λ ts. (qs, ts)) _ false (listed_told rs))

    references_regrouped : (a : Text × ActionForm Name (Name × Text)) → ((list_any missing (to_entities (namespace_parts space) a.1.principals) || list_any missing (to_entities (namespace_parts space) a.1.resources)) || (list_any missing (references_in (namespace_parts space) (as_expr a.1.context)) || false)) ≡ action_missing a
    references_regrouped a =
        let P = list_any missing (to_entities (namespace_parts space) a.1.principals) in
        let R = list_any missing (to_entities (namespace_parts space) a.1.resources) in
        let C = list_any missing (references_in (namespace_parts space) (as_expr a.1.context)) in
        ap (λ b. (P || R) || b) (or_none C)
        ∙ sym (or_right P R C)
        ∙ sym (list_any-append missing (to_entities (namespace_parts space) a.1.principals) (to_entities (namespace_parts space) a.1.resources ++ references_in (namespace_parts space) (as_expr a.1.context)) ∙ ap (λ b. P || b) (list_any-append missing (to_entities (namespace_parts space) a.1.resources) (references_in (namespace_parts space) (as_expr a.1.context))))

    resolved_told : (a : Text × ActionForm Name (Name × Text)) → Told IsWrong (action_resolved s (action_qualified space a).1) (action_missing a) (action_parents_missing a)
    resolved_told a =
        subst (λ b. Told IsWrong (action_resolved s (action_qualified space a).1) b (action_parents_missing a)) (references_regrouped a)
        (told_bind IsWrong (applied_resolved s (map (conditional_in space to_entity) a.1.principals, map (conditional_in space to_entity) a.1.resources)) _ _ false _ _ (applied_told a.1.principals a.1.resources)
        (λ applied. told_bind IsWrong (context_resolved s (type_with (conditional_in space) a.1.context)) _ _ false _ _ (context_told a.1.context)
        (λ t. told_last IsWrong (each (parent_resolved s) (map (parent_with (conditional_in space)) a.1.parents)) _ false _ (parents_told a.1.parents))))

    action_told : (a : Text × ActionForm Name (Name × Text)) → Told IsWrong (with_uid (action_resolved s) (action_qualified space a)) (action_missing a) (action_parents_missing a)
    action_told a = told_last IsWrong (action_resolved s (action_qualified space a).1) (λ y. ((action_qualified space a).0, y)) _ _ (resolved_told a)

  -- a namespace
  abbrev CM : WrittenNamespace → Bool
  CM w = list_any (λ c. list_any missing (references_of_common (common_declaration w.namespace c))) w.commons

  abbrev EM : WrittenNamespace → Bool
  EM w = list_any (λ t. list_any missing (references_of_entity (entity_declaration w.namespace t))) w.entities

  abbrev AM : WrittenNamespace → Bool
  AM w = list_any (action_missing w.namespace) w.actions

  abbrev PM : WrittenNamespace → Bool
  PM w = list_any (action_parents_missing w.namespace) w.actions

  namespace_told : (w : WrittenNamespace) → Told IsWrong (namespace_resolved s (whole w)) (CM w || (EM w || AM w)) (PM w)
  namespace_told w =
      told_bind IsWrong (of_types (commons_resolved s (map (common_qualified w.namespace) w.commons))) _ (CM w) false (EM w || AM w) (PM w) (told_types IsWrong _ (CM w) (commons_refused mean undeclared s d has w.namespace w.commons))
      (λ cs. told_bind IsWrong (of_types (entities_resolved s (map (entity_qualified w.namespace) w.entities))) _ (EM w) false (AM w) (PM w) (told_types IsWrong _ (EM w) (entities_refused mean undeclared s d has w.namespace w.entities))
      (λ es. told_last IsWrong (each (with_uid (action_resolved s)) (map (action_qualified w.namespace) w.actions)) _ (AM w) (PM w) (told_each IsWrong (with_uid (action_resolved s)) (action_qualified w.namespace) (action_missing w.namespace) (action_parents_missing w.namespace) (action_told w.namespace) w.actions)))

  -- what the declarations that namespaces write lack
  types_lack : (ws : List WrittenNamespace) → list_any (λ w. CM w || (EM w || AM w)) ws ≡ list_any missing (references (declarations_of ws))
  types_lack ws =
      let D = declarations_of ws in
      any_or3 CM EM AM ws
      ∙ sym (list_any-append missing (flat_map references_of_common D.commons) (flat_map references_of_entity D.entities ++ flat_map references_of_action D.actions)
      ∙ (λ i. (any_flat missing references_of_common D.commons ∙ of_commons ws (λ c. list_any missing (references_of_common c))) i || (list_any-append missing (flat_map references_of_entity D.entities) (flat_map references_of_action D.actions) ∙ (λ j. (any_flat missing references_of_entity D.entities ∙ of_entities ws (λ t. list_any missing (references_of_entity t))) j || (any_flat missing references_of_action D.actions ∙ of_actions ws (λ a. list_any missing (references_of_action a))) j)) i))

  abbrev parents_lack : ActionDeclaration → Bool
  parents_lack a = list_any (λ u. is_none (parent_meant d a.namespace u)) a.parents

  actions_lack : (ws : List WrittenNamespace) → list_any PM ws ≡ list_any parents_lack (declarations_of ws).actions
  actions_lack ws = sym (of_actions ws parents_lack)

  module _ (fs : List (ValidatorSchemaFragment ConditionalName ConditionalName)) (w : AreWritten fs d) (x : List Name) where
    types_fault : list_any (λ v. CM v || (EM v || AM v)) w.namespaces ≡ has_schema_fault x d undeclared_type
    types_fault = types_lack w.namespaces ∙ ap (λ e. list_any missing (references e)) (sym w.declares)

    actions_fault : list_any PM w.namespaces ≡ has_schema_fault x d undeclared_action
    actions_fault = actions_lack w.namespaces ∙ ap (λ e. list_any parents_lack e.actions) (sym w.declares)

    all_told : Told IsWrong (each (namespace_resolved s) (all_forms fs)) (has_schema_fault x d undeclared_type) (has_schema_fault x d undeclared_action)
    all_told =
        subst (λ ns. Told IsWrong (each (namespace_resolved s) ns) (has_schema_fault x d undeclared_type) (has_schema_fault x d undeclared_action)) (sym (wholes_are w.namespaces (all_forms fs) w.qualifies))
        (subst (λ b. Told IsWrong (each (namespace_resolved s) (map whole w.namespaces)) b (has_schema_fault x d undeclared_action)) types_fault
        (subst (Told IsWrong (each (namespace_resolved s) (map whole w.namespaces)) (list_any (λ v. CM v || (EM v || AM v)) w.namespaces)) actions_fault
        (told_each IsWrong (namespace_resolved s) whole (λ v. CM v || (EM v || AM v)) PM namespace_told w.namespaces)))

    fault_is : (r : Refusal) → Tells IsWrong r (has_schema_fault x d undeclared_type) (has_schema_fault x d undeclared_action) → HasSchemaFault x d (fault_told r)
    fault_is (no_type c) h = (schema_fault-Decides x d undeclared_type).0 h
    fault_is (no_action p) h = (schema_fault-Decides x d undeclared_action).0 h
    fault_is (reserved_type n) h = (n, h.0, h.1)

    pub refusal_tells : (r : Refusal) → all_resolved s fs ≡ Err r → HasSchemaFault x d (fault_told r)
    refusal_tells r h = fault_is r (subst (λ o. Told IsWrong o (has_schema_fault x d undeclared_type) (has_schema_fault x d undeclared_action)) (each_flat (namespace_resolved s) (fragment_form conditional_of conditional_of) fs ∙ ap (and_then (λ yss. Ok (flat_map (λ ys. ys) yss))) h) all_told)

    pub made_means : (gs : List (List (NamespaceForm Name (Name × Text)))) → all_resolved s fs ≡ Ok gs → (HasSchemaFault x d undeclared_type → ⊥) × (HasSchemaFault x d undeclared_action → ⊥)
    made_means gs h =
        let t : (has_schema_fault x d undeclared_type ≡ false) × (has_schema_fault x d undeclared_action ≡ false) = subst (λ o. Told IsWrong o (has_schema_fault x d undeclared_type) (has_schema_fault x d undeclared_action)) (each_flat (namespace_resolved s) (fragment_form conditional_of conditional_of) fs ∙ ap (and_then (λ yss. Ok (flat_map (λ ys. ys) yss))) h) all_told in
        (λ f. true≢false (sym ((schema_fault-Decides x d undeclared_type).1 f) ∙ t.0), λ f. true≢false (sym ((schema_fault-Decides x d undeclared_action).1 f) ∙ t.1))
