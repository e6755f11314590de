-- The names in fragments are the written names of the declarations that they write.
use Rattle.std.proofs.Common.{◌≡◌, ◌↔◌, Bool, false, ◌||◌, List, [], ◌++◌, map, Option, Some, None, option_map, refl, sym, ap, ◌∙◌, subst}
use Rattle.std.proofs.lemmas.List.Folds.{list_any-append}
use Rattle.std.specs.Prelude.{Contains, find, is_some}
use Rattle.std.specs.Bool.{Decides}
use Rattle.std.specs.List.{flat_map, list_any}
use Rattle.std.specs.Option.{option_to_list}
use Rattle.cedar_expr_model.specs.Name.{Text, Name, name_eq, is_reserved}
use Rattle.cedar_expr_model.specs.Uid.{Uid}
use Rattle.cedar_expr_model.proofs.Equality.{name_eq-Decides}
use Rattle.cedar_expr_model.proofs.Lists.{found-Decides}
use Rattle.cedar_expr_leaves.specs.declared.conditional_name.ConditionalName.{ConditionalName}
use Rattle.cedar_schema_model.proofs.Decls.Faults.{schema_fault-Decides}
use Rattle.cedar_schema_model.specs.BagLaws.{HasSchemaFault}
use Rattle.cedar_schema_model.specs.Declarations.{Declarations, CommonDeclaration, EntityDeclaration, ActionDeclaration, common_name, entity_name, action_uid, common_names, entity_names, action_uids, references_in, references_in_fields, extensions_in, extensions_in_fields, types_in, to_entities, references_of_common, references_of_entity, references_of_action, references, extensions}
use Rattle.cedar_schema_model.specs.Reference.{Namespace, to_entity, Reference}
use Rattle.cedar_schema_model.specs.WellFormed.{reserved_name, written_names}
use Rattle.cedar_schema_decl.specs.Conditional.{Conditional, conditional_in}
use Rattle.cedar_schema_decl.specs.Forms.{TypeForm, bool_form, long_form, string_form, set_form, record_form, reference_form, extension_form, FieldForms, no_field_forms, field_form, EntityForm, standard_form, enumerated_form, external_form, ActionForm}
use Rattle.cedar_schema_decl.specs.Laws.{namespace_parts, as_expr, as_exprs}
use Rattle.cedar_schema_fragments.proofs.Anys.{or_none, or_right, or_across, any_alike, any_or, any_or3, any_map, any_map2, any_flat, any_flat_map}
use Rattle.cedar_schema_fragments.proofs.Wholes.{whole, wholes_are}
use Rattle.cedar_schema_fragments.specs.Qualified.{type_with, fields_with, entity_with, parent_with, common_qualified, entity_qualified, action_qualified}
use Rattle.cedar_schema_fragments.specs.Written.{WrittenNamespace}
use Rattle.cedar_schema_fragments.specs.WrittenDeclarations.{common_declaration, entity_declaration, action_declaration, parents_written, kind_written, as_uid, declarations_of, all_forms, AreWritten}
use Rattle.cedar_schema_fragments.specs.declared.namespace_def.ValidatorSchemaFragment.{ValidatorSchemaFragment}
use Rattle.cedar_schema_builder.proofs.Anys.{ten_turned, any_or6}
use Rattle.cedar_schema_builder.proofs.OfKind.{of_commons, of_entities, of_actions}
use Rattle.cedar_schema_builder.proofs.Finding.{some_found}
use Rattle.cedar_schema_builder.specs.WrittenNames.{names_in_type, names_in_fields, names_in_common, names_in_kind, names_in_entity, names_of_action, names_in_action, names_in_namespace, names_in}

module _ (p : Name → Bool) where
  -- a reference by a name that passes, and a parent
  abbrev refers : Reference → Bool
  refers r = p r.name

  module _ (space : Option Name) where
    abbrev parts : Namespace
    parts = namespace_parts space

    -- references and extension types of a type
    mutual
      type_names : (t : TypeForm Name) → list_any p (names_in_type (type_with (conditional_in space) t)) ≡ (list_any refers (references_in parts (as_expr t)) || list_any p (extensions_in (as_expr t)))
      type_names bool_form = refl
      type_names long_form = refl
      type_names string_form = refl
      type_names (set_form t) = type_names t
      type_names (record_form fs) = field_names fs
      type_names (reference_form k n) = sym (or_none (p n || false))
      type_names (extension_form n) = refl

      field_names : (fs : FieldForms Name) → list_any p (names_in_fields (fields_with (conditional_in space) fs)) ≡ (list_any refers (references_in_fields parts (as_exprs fs)) || list_any p (extensions_in_fields (as_exprs fs)))
      field_names no_field_forms = refl
      field_names (field_form a t r fs) =
          list_any-append p (names_in_type (type_with (conditional_in space) t)) (names_in_fields (fields_with (conditional_in space) fs))
          ∙ (λ i. type_names t i || field_names fs i)
          ∙ or_across (list_any refers (references_in parts (as_expr t))) (list_any p (extensions_in (as_expr t))) (list_any refers (references_in_fields parts (as_exprs fs))) (list_any p (extensions_in_fields (as_exprs fs)))
          ∙ (λ i. sym (list_any-append refers (references_in parts (as_expr t)) (references_in_fields parts (as_exprs fs))) i || sym (list_any-append p (extensions_in (as_expr t)) (extensions_in_fields (as_exprs fs))) i)

    -- names of entity types
    listed_names : (ns : List Name) → list_any p (map (λ c. c.written) (map (conditional_in space to_entity) ns)) ≡ list_any refers (to_entities parts ns)
    listed_names ns = any_map2 p (λ (c : Conditional). c.written) (conditional_in space to_entity) ns ∙ sym (any_map refers (λ n. record { namespace = parts; kind = to_entity; name = n }) ns)

    -- the type of tags
    tag_names : (o : Option (TypeForm Name)) → list_any p (flat_map names_in_type (option_to_list (option_map (type_with (conditional_in space)) o))) ≡ (list_any refers (flat_map (references_in parts) (option_to_list (option_map as_expr o))) || list_any p (flat_map extensions_in (option_to_list (option_map as_expr o))))
    tag_names None = refl
    tag_names (Some t) =
        list_any-append p (names_in_type (type_with (conditional_in space) t)) []
        ∙ or_none (list_any p (names_in_type (type_with (conditional_in space) t)))
        ∙ type_names t
        ∙ (λ i. sym (list_any-append refers (references_in parts (as_expr t)) [] ∙ or_none (list_any refers (references_in parts (as_expr t)))) i || sym (list_any-append p (extensions_in (as_expr t)) [] ∙ or_none (list_any p (extensions_in (as_expr t)))) i)

    abbrev entity_refers : EntityForm Name → List Reference
    entity_refers e = to_entities parts (parents_written e) ++ flat_map (references_in parts) (types_in (kind_written e))

    abbrev entity_extends : EntityForm Name → List Name
    entity_extends e = flat_map extensions_in (types_in (kind_written e))

    kind_names : (e : EntityForm Name) → list_any p (names_in_kind (entity_with (conditional_in space) e)) ≡ (list_any refers (entity_refers e) || list_any p (entity_extends e))
    kind_names (standard_form ps fs t) =
        let P = list_any refers (to_entities parts ps) in
        let R = list_any refers (references_in_fields parts (as_exprs fs)) in
        let X = list_any p (extensions_in_fields (as_exprs fs)) in
        let S = list_any refers (flat_map (references_in parts) (option_to_list (option_map as_expr t))) in
        let Y = list_any p (flat_map extensions_in (option_to_list (option_map as_expr t))) in
        list_any-append p (map (λ (c : Conditional). c.written) (map (conditional_in space to_entity) ps)) (names_in_fields (fields_with (conditional_in space) fs) ++ flat_map names_in_type (option_to_list (option_map (type_with (conditional_in space)) t)))
        ∙ (λ i. listed_names ps i || (list_any-append p (names_in_fields (fields_with (conditional_in space) fs)) (flat_map names_in_type (option_to_list (option_map (type_with (conditional_in space)) t))) ∙ (λ j. field_names fs j || tag_names t j) ∙ or_across R X S Y) i)
        ∙ or_right P (R || S) (X || Y)
        ∙ (λ i. (P || sym (list_any-append refers (references_in_fields parts (as_exprs fs)) (flat_map (references_in parts) (option_to_list (option_map as_expr t)))) i) || sym (list_any-append p (extensions_in_fields (as_exprs fs)) (flat_map extensions_in (option_to_list (option_map as_expr t)))) i)
        ∙ ap (λ b. b || list_any p (entity_extends (standard_form ps fs t))) (sym (list_any-append refers (to_entities parts ps) (references_in_fields parts (as_exprs fs) ++ flat_map (references_in parts) (option_to_list (option_map as_expr t)))))
    kind_names (enumerated_form ids) = refl
    kind_names (external_form ps) = listed_names ps ∙ sym (list_any-append refers (to_entities parts ps) [] ∙ or_none (list_any refers (to_entities parts ps))) ∙ sym (or_none (list_any refers (entity_refers (external_form ps))))

    -- an action: its parents, and then its references and extension types
    abbrev parent_names : ActionForm Name (Name × Text) → Bool
    parent_names a = list_any p (map (λ u. u.kind) (map as_uid a.parents))

    abbrev action_refers : ActionForm Name (Name × Text) → List Reference
    action_refers a = to_entities parts a.principals ++ (to_entities parts a.resources ++ references_in parts (as_expr a.context))

    parents_named : (ps : List (Name × Text)) → list_any p (map (λ q. q.0.written) (map (parent_with (conditional_in space)) ps)) ≡ list_any p (map (λ u. u.kind) (map as_uid ps))
    parents_named ps = any_map2 p (λ (q : Conditional × Text). q.0.written) (parent_with (conditional_in space)) ps ∙ sym (any_map2 p (λ (u : Uid). u.kind) as_uid ps)

    action_names : (a : Text × ActionForm Name (Name × Text)) → list_any p (names_of_action (action_qualified space a).1) ≡ (parent_names a.1 || (list_any refers (action_refers a.1) || list_any p (extensions_in (as_expr a.1.context))))
    action_names a =
        let f = a.1 in
        let A = map (λ (c : Conditional). c.written) (map (conditional_in space to_entity) f.principals) in
        let B = map (λ (c : Conditional). c.written) (map (conditional_in space to_entity) f.resources) in
        let C = names_in_type (type_with (conditional_in space) f.context) in
        let P = list_any refers (to_entities parts f.principals) in
        let Q = list_any refers (to_entities parts f.resources) in
        let R = list_any refers (references_in parts (as_expr f.context)) in
        let X = list_any p (extensions_in (as_expr f.context)) in
        list_any-append p (map (λ (q : Conditional × Text). q.0.written) (map (parent_with (conditional_in space)) f.parents)) (A ++ (B ++ C))
        ∙ (λ i. parents_named f.parents i || (list_any-append p A (B ++ C) ∙ (λ j. listed_names f.principals j || (list_any-append p B C ∙ (λ k. listed_names f.resources k || type_names f.context k) ∙ or_right Q R X) j) ∙ or_right P (Q || R) X ∙ ap (λ b. b || X) (sym (list_any-append refers (to_entities parts f.principals) (to_entities parts f.resources ++ references_in parts (as_expr f.context)) ∙ ap (λ b. P || b) (list_any-append refers (to_entities parts f.resources) (references_in parts (as_expr f.context)))))) i)

  -- what each declaration of a namespace writes
  module _ (w : WrittenNamespace) where
    abbrev NC : Bool
    NC = list_any (λ c. p (common_name (common_declaration w.namespace c))) w.commons

    abbrev RC : Bool
    RC = list_any (λ c. list_any refers (references_of_common (common_declaration w.namespace c))) w.commons

    abbrev XC : Bool
    XC = list_any (λ c. list_any p (extensions_in (common_declaration w.namespace c).definition)) w.commons

    abbrev NE : Bool
    NE = list_any (λ t. p (entity_name (entity_declaration w.namespace t))) w.entities

    abbrev RE : Bool
    RE = list_any (λ t. list_any refers (references_of_entity (entity_declaration w.namespace t))) w.entities

    abbrev XE : Bool
    XE = list_any (λ t. list_any p (flat_map extensions_in (types_in (entity_declaration w.namespace t).kind))) w.entities

    abbrev NA : Bool
    NA = list_any (λ a. p (action_uid (action_declaration w.namespace a)).kind) w.actions

    abbrev PA : Bool
    PA = list_any (λ a. list_any p (map (λ u. u.kind) (action_declaration w.namespace a).parents)) w.actions

    abbrev RA : Bool
    RA = list_any (λ a. list_any refers (references_of_action (action_declaration w.namespace a))) w.actions

    abbrev XA : Bool
    XA = list_any (λ a. list_any p (extensions_in (action_declaration w.namespace a).context)) w.actions

    commons_written : list_any p (flat_map names_in_common (map (common_qualified w.namespace) w.commons)) ≡ (NC || (RC || XC))
    commons_written =
        any_flat_map p names_in_common (common_qualified w.namespace) w.commons
        ∙ any_alike (λ c. list_any p (names_in_common (common_qualified w.namespace c))) (λ c. p (common_name (common_declaration w.namespace c)) || (list_any refers (references_of_common (common_declaration w.namespace c)) || list_any p (extensions_in (common_declaration w.namespace c).definition))) (λ c. ap (λ b. p (common_name (common_declaration w.namespace c)) || b) (type_names w.namespace c.1)) w.commons
        ∙ any_or3 (λ c. p (common_name (common_declaration w.namespace c))) (λ c. list_any refers (references_of_common (common_declaration w.namespace c))) (λ c. list_any p (extensions_in (common_declaration w.namespace c).definition)) w.commons

    entities_written : list_any p (flat_map names_in_entity (map (entity_qualified w.namespace) w.entities)) ≡ (NE || (RE || XE))
    entities_written =
        any_flat_map p names_in_entity (entity_qualified w.namespace) w.entities
        ∙ any_alike (λ t. list_any p (names_in_entity (entity_qualified w.namespace t))) (λ t. p (entity_name (entity_declaration w.namespace t)) || (list_any refers (references_of_entity (entity_declaration w.namespace t)) || list_any p (flat_map extensions_in (types_in (entity_declaration w.namespace t).kind)))) (λ t. ap (λ b. p (entity_name (entity_declaration w.namespace t)) || b) (kind_names w.namespace t.1)) w.entities
        ∙ any_or3 (λ t. p (entity_name (entity_declaration w.namespace t))) (λ t. list_any refers (references_of_entity (entity_declaration w.namespace t))) (λ t. list_any p (flat_map extensions_in (types_in (entity_declaration w.namespace t).kind))) w.entities

    actions_written : list_any p (flat_map names_in_action (map (action_qualified w.namespace) w.actions)) ≡ (NA || (PA || (RA || XA)))
    actions_written =
        any_flat_map p names_in_action (action_qualified w.namespace) w.actions
        ∙ any_alike (λ a. list_any p (names_in_action (action_qualified w.namespace a))) (λ a. p (action_uid (action_declaration w.namespace a)).kind || (list_any p (map (λ u. u.kind) (action_declaration w.namespace a).parents) || (list_any refers (references_of_action (action_declaration w.namespace a)) || list_any p (extensions_in (action_declaration w.namespace a).context)))) (λ a. ap (λ b. p (action_uid (action_declaration w.namespace a)).kind || b) (action_names w.namespace a)) w.actions
        ∙ any_or (λ a. p (action_uid (action_declaration w.namespace a)).kind) (λ a. list_any p (map (λ u. u.kind) (action_declaration w.namespace a).parents) || (list_any refers (references_of_action (action_declaration w.namespace a)) || list_any p (extensions_in (action_declaration w.namespace a).context))) w.actions
        ∙ ap (λ b. NA || b) (any_or3 (λ a. list_any p (map (λ u. u.kind) (action_declaration w.namespace a).parents)) (λ a. list_any refers (references_of_action (action_declaration w.namespace a))) (λ a. list_any p (extensions_in (action_declaration w.namespace a).context)) w.actions)

    namespace_written : list_any p (names_in_namespace (whole w)) ≡ (NC || (NE || (NA || ((RC || (RE || RA)) || ((XC || (XE || XA)) || PA)))))
    namespace_written =
        list_any-append p (flat_map names_in_common (map (common_qualified w.namespace) w.commons)) (flat_map names_in_entity (map (entity_qualified w.namespace) w.entities) ++ flat_map names_in_action (map (action_qualified w.namespace) w.actions))
        ∙ (λ i. commons_written i || (list_any-append p (flat_map names_in_entity (map (entity_qualified w.namespace) w.entities)) (flat_map names_in_action (map (action_qualified w.namespace) w.actions)) ∙ (λ j. entities_written j || actions_written j)) i)
        ∙ ten_turned NC RC XC NE RE XE NA RA XA PA

  -- whether the test holds of a name in all that is written, one kind of names after the other
  module _ (ws : List WrittenNamespace) where
    abbrev D : Declarations
    D = declarations_of ws

    names_alike : list_any p (written_names D) ≡ (list_any NC ws || (list_any NE ws || (list_any NA ws || ((list_any RC ws || (list_any RE ws || list_any RA ws)) || ((list_any XC ws || (list_any XE ws || list_any XA ws)) || list_any PA ws)))))
    names_alike =
        list_any-append p (common_names D) _
        ∙ (λ i. common_part i || (list_any-append p (entity_names D) _ ∙ (λ j. entity_part j || (list_any-append p (map (λ u. u.kind) (action_uids D)) _ ∙ (λ k. action_part k || (list_any-append p (map (λ r. r.name) (references D)) _ ∙ (λ l. reference_part l || (list_any-append p (extensions D) _ ∙ (λ m. extension_part m || parent_part m)) l)) k)) j)) i)
      where
        common_part : list_any p (common_names D) ≡ list_any NC ws
        common_part = any_map p common_name D.commons ∙ of_commons ws (λ c. p (common_name c))

        entity_part : list_any p (entity_names D) ≡ list_any NE ws
        entity_part = any_map p entity_name D.entities ∙ of_entities ws (λ t. p (entity_name t))

        action_part : list_any p (map (λ u. u.kind) (action_uids D)) ≡ list_any NA ws
        action_part = any_map2 p (λ (u : Uid). u.kind) action_uid D.actions ∙ of_actions ws (λ a. p (action_uid a).kind)

        reference_part : list_any p (map (λ r. r.name) (references D)) ≡ (list_any RC ws || (list_any RE ws || list_any RA ws))
        reference_part =
            any_map p (λ (r : Reference). r.name) (references D)
            ∙ list_any-append refers (flat_map references_of_common D.commons) (flat_map references_of_entity D.entities ++ flat_map references_of_action D.actions)
            ∙ (λ i. (any_flat refers references_of_common D.commons ∙ of_commons ws (λ c. list_any refers (references_of_common c))) i || (list_any-append refers (flat_map references_of_entity D.entities) (flat_map references_of_action D.actions) ∙ (λ j. (any_flat refers references_of_entity D.entities ∙ of_entities ws (λ t. list_any refers (references_of_entity t))) j || (any_flat refers references_of_action D.actions ∙ of_actions ws (λ a. list_any refers (references_of_action a))) j)) i)

        extension_part : list_any p (extensions D) ≡ (list_any XC ws || (list_any XE ws || list_any XA ws))
        extension_part =
            list_any-append p (flat_map (λ c. extensions_in c.definition) D.commons) (flat_map (λ t. flat_map extensions_in (types_in t.kind)) D.entities ++ flat_map (λ a. extensions_in a.context) D.actions)
            ∙ (λ i. (any_flat p (λ (c : CommonDeclaration). extensions_in c.definition) D.commons ∙ of_commons ws (λ c. list_any p (extensions_in c.definition))) i || (list_any-append p (flat_map (λ t. flat_map extensions_in (types_in t.kind)) D.entities) (flat_map (λ a. extensions_in a.context) D.actions) ∙ (λ j. (any_flat p (λ (t : EntityDeclaration). flat_map extensions_in (types_in t.kind)) D.entities ∙ of_entities ws (λ t. list_any p (flat_map extensions_in (types_in t.kind)))) j || (any_flat p (λ (a : ActionDeclaration). extensions_in a.context) D.actions ∙ of_actions ws (λ a. list_any p (extensions_in a.context))) j)) i)

        parent_part : list_any p (flat_map (λ a. map (λ u. u.kind) a.parents) D.actions) ≡ list_any PA ws
        parent_part = any_flat p (λ (a : ActionDeclaration). map (λ u. u.kind) a.parents) D.actions ∙ of_actions ws (λ a. list_any p (map (λ u. u.kind) a.parents))

    all_written : list_any p (flat_map names_in_namespace (map whole ws)) ≡ list_any p (written_names D)
    all_written =
        any_flat_map p names_in_namespace whole ws
        ∙ any_alike (λ w. list_any p (names_in_namespace (whole w))) (λ w. NC w || (NE w || (NA w || ((RC w || (RE w || RA w)) || ((XC w || (XE w || XA w)) || PA w))))) namespace_written ws
        ∙ any_or6 NC NE NA (λ w. RC w || (RE w || RA w)) (λ w. XC w || (XE w || XA w)) PA ws
        ∙ (λ i. list_any NC ws || (list_any NE ws || (list_any NA ws || (any_or3 RC RE RA ws i || (any_or3 XC XE XA ws i || list_any PA ws)))))
        ∙ sym names_alike

  pub same_names : (fs : List (ValidatorSchemaFragment ConditionalName ConditionalName)) (d : Declarations) → AreWritten fs d → list_any p (names_in fs) ≡ list_any p (written_names d)
  same_names fs d w =
      ap (λ ns. list_any p (flat_map names_in_namespace ns)) (wholes_are w.namespaces (all_forms fs) w.qualifies)
      ∙ all_written w.namespaces
      ∙ ap (λ e. list_any p (written_names e)) (sym w.declares)

-- a name stands among the one where it stands among the other
moved : (xs ys : List Name) (n : Name) → list_any (name_eq n) xs ≡ list_any (name_eq n) ys → Contains xs n → Contains ys n
moved xs ys n h c = (found-Decides name_eq name_eq-Decides n ys).0 (sym h ∙ (found-Decides name_eq name_eq-Decides n xs).1 c)

pub names_are_written : (fs : List (ValidatorSchemaFragment ConditionalName ConditionalName)) (d : Declarations) → AreWritten fs d → (n : Name) → Contains (names_in fs) n ↔ Contains (written_names d) n
names_are_written fs d w n =
    let h : list_any (name_eq n) (names_in fs) ≡ list_any (name_eq n) (written_names d) = same_names (name_eq n) fs d w in
    (moved (names_in fs) (written_names d) n h, moved (written_names d) (names_in fs) n (sym h))

pub reserved_found : (fs : List (ValidatorSchemaFragment ConditionalName ConditionalName)) (d : Declarations) → AreWritten fs d → (x : List Name) → Decides (is_some (find is_reserved (names_in fs))) (HasSchemaFault x d reserved_name)
reserved_found fs d w x = subst (λ b. Decides b (HasSchemaFault x d reserved_name)) (sym (some_found is_reserved (names_in fs) ∙ same_names is_reserved fs d w)) (schema_fault-Decides x d reserved_name)
