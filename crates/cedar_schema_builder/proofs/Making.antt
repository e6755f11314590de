-- What comes of fragments writes the declarations that they write.
use Rattle.std.proofs.Common.{◌≡◌, List, [], ◌∷◌, map, Option, Result, Ok, refl, sym, ap, ◌∙◌, subst}
use Rattle.std.specs.List.{flat_map}
use Rattle.cedar_expr_model.specs.Name.{Text, Name}
use Rattle.cedar_expr_names.specs.Views.{name_of, type_name_of}
use Rattle.cedar_expr_names.specs.declared.entity.EntityType.{EntityType}
use Rattle.cedar_expr_names.specs.declared.internal_name.InternalName.{InternalName}
use Rattle.cedar_expr_leaves.specs.declared.conditional_name.ConditionalName.{ConditionalName}
use Rattle.cedar_schema_model.specs.Declarations.{CommonDeclaration, Declarations}
use Rattle.cedar_schema_decl.specs.Conditional.{conditional_in, conditional_of}
use Rattle.cedar_schema_decl.specs.Defined.{Defined, resolving}
use Rattle.cedar_schema_decl.specs.Forms.{TypeForm}
use Rattle.cedar_schema_decl.specs.Laws.{resolved_in}
use Rattle.cedar_schema_decl.specs.Requalified.{and_then, requalified, requalified_entity, under_name, each}
use Rattle.cedar_schema_fragments.proofs.Qualifying.{type_all}
use Rattle.cedar_schema_fragments.proofs.Wholes.{whole, wholes_are, each_after}
use Rattle.cedar_schema_fragments.specs.Laws.{WrittenTypesAreDeclared, WrittenActionsAreDeclared}
use Rattle.cedar_schema_fragments.specs.Marked.{HasAll}
use Rattle.cedar_schema_fragments.specs.Namespaces.{NamespaceForm, fragment_form}
use Rattle.cedar_schema_fragments.specs.Qualified.{type_with, full_name, common_qualified, entity_qualified, action_qualified}
use Rattle.cedar_schema_fragments.specs.Resolved.{of_types, action_resolved, with_uid, commons_resolved, entities_resolved, namespace_resolved}
use Rattle.cedar_schema_fragments.specs.Written.{WrittenNamespace}
use Rattle.cedar_schema_fragments.specs.WrittenDeclarations.{common_declaration, entity_declaration, action_declaration, declared_in, all_forms, AreWritten}
use Rattle.cedar_schema_fragments.specs.declared.namespace_def.ValidatorSchemaFragment.{ValidatorSchemaFragment}
use Rattle.cedar_schema_resolver.specs.Laws.{IsWrittenAs, AreWrittenAs}
use Rattle.cedar_schema_builder.specs.ResolvedLaws.{resolved_forms}
use Rattle.cedar_schema_builder.specs.Writing.{CommonForms, EntityForms, ActionForms, commons_of, entities_of, actions_of, InPlace, IsEntityWrittenAs, IsActionWrittenAs, WritesAll}
use Rattle.cedar_schema_builder.proofs.ResolvedComing.{Came, came, EachCame, each_came, ok_same, of_types_came, in_place, in_place_flat}

-- resolved at once, and with what each name may stand for in between
pub resolved_at : (s : Defined) (space : Option Name) (t r : TypeForm Name) → requalified (resolving s) (type_with (conditional_in space) t) ≡ Ok r → resolved_in s space t ≡ Ok r
resolved_at s space t r h = ap (and_then (requalified (resolving s))) (type_all space t) ∙ h

-- common types
common_made : (s : Defined) (space : Option Name) (c : Text × TypeForm Name) (p : Name × TypeForm Name) → under_name (requalified (resolving s)) (common_qualified space c) ≡ Ok p → IsWrittenAs s (common_declaration space c) p
common_made s space c p h =
    let k : Came (λ y. Ok (full_name space c.0, y)) (requalified (resolving s) (type_with (conditional_in space) c.1)) p = came (λ y. Ok (full_name space c.0, y)) (requalified (resolving s) (type_with (conditional_in space) c.1)) p h in
    let e : (full_name space c.0, k.value) ≡ p = ok_same (full_name space c.0, k.value) p k.after in
    record {
      space = space;
      form = c.1;
      name = ap (λ x. x.0) (sym e);
      namespace = refl;
      definition = refl;
      resolved = resolved_at s space c.1 k.value k.first ∙ ap (λ x. Ok x.1) e;
    }

as_written : (s : Defined) (cs : List CommonDeclaration) (ps : CommonForms) → InPlace (IsWrittenAs s) cs ps → AreWrittenAs s cs ps
as_written s [] [] w = tt
as_written s [] (p ∷ ps) w = w
as_written s (c ∷ cs) [] w = w
as_written s (c ∷ cs) (p ∷ ps) w = (w.0, as_written s cs ps w.1)

-- a namespace
record NamespaceMade (s : Defined) (w : WrittenNamespace) (n : NamespaceForm Name (Name × Text)) : Type 0 where
  commons : InPlace (IsWrittenAs s) (declared_in w).commons n.commons
  entities : InPlace (IsEntityWrittenAs s) (declared_in w).entities n.entities
  actions : InPlace (IsActionWrittenAs s) (declared_in w).actions n.actions

module _ (s : Defined) (w : WrittenNamespace) where
  abbrev made_of : CommonForms → EntityForms → ActionForms → NamespaceForm Name (Name × Text)
  made_of cs es us = record { namespace = w.namespace; commons = cs; entities = es; actions = us }

  namespace_made : (n : NamespaceForm Name (Name × Text)) → namespace_resolved s (whole w) ≡ Ok n → NamespaceMade s w n
  namespace_made n h =
      let a = came (λ cs. and_then (λ es. and_then (λ us. Ok (made_of cs es us)) (each (with_uid (action_resolved s)) (whole w).actions)) (of_types (entities_resolved s (whole w).entities))) (of_types (commons_resolved s (whole w).commons)) n h in
      let b = came (λ es. and_then (λ us. Ok (made_of a.value es us)) (each (with_uid (action_resolved s)) (whole w).actions)) (of_types (entities_resolved s (whole w).entities)) n a.after in
      let c = came (λ us. Ok (made_of a.value b.value us)) (each (with_uid (action_resolved s)) (whole w).actions) n b.after in
      let made : NamespaceMade s w (made_of a.value b.value c.value) = record {
        commons = in_place (under_name (requalified (resolving s))) (common_qualified w.namespace) (common_declaration w.namespace) (IsWrittenAs s) (common_made s w.namespace) w.commons a.value (of_types_came (commons_resolved s (whole w).commons) a.value a.first);
        entities = in_place (under_name (requalified_entity (resolving s))) (entity_qualified w.namespace) (entity_declaration w.namespace) (IsEntityWrittenAs s)
            (λ f p k. record { space = w.namespace; form = f; declares = refl; resolves = k }) w.entities b.value (of_types_came (entities_resolved s (whole w).entities) b.value b.first);
        actions = in_place (with_uid (action_resolved s)) (action_qualified w.namespace) (action_declaration w.namespace) (IsActionWrittenAs s)
            (λ f p k. record { space = w.namespace; form = f; declares = refl; resolves = k }) w.actions c.value c.first;
      } in
      subst (NamespaceMade s w) {x = made_of a.value b.value c.value} (ok_same (made_of a.value b.value c.value) n c.after) made

-- all of them
module _ (s : Defined) {A B : Type 0} (rel : A → B → Type 0) (f : Declarations → List A) (g : NamespaceForm Name (Name × Text) → List B) (one : (w : WrittenNamespace) (n : NamespaceForm Name (Name × Text)) → NamespaceMade s w n → InPlace rel (f (declared_in w)) (g n)) where
  all_made : (ws : List WrittenNamespace) (ns : List (NamespaceForm Name (Name × Text))) → each (namespace_resolved s) (map whole ws) ≡ Ok ns → InPlace rel (flat_map f (map declared_in ws)) (flat_map g ns)
  all_made ws ns h = in_place_flat rel f g (map declared_in ws) ns (in_place (namespace_resolved s) whole declared_in (λ d n. InPlace rel (f d) (g n)) (λ w n k. one w n (namespace_made s w n k)) ws ns h)

-- those of several at once
module _ {A B C D R : Type 0} (f : A → Result B R) (q : C → List A) (h : D → List B) where
  all_at_once : (cs : List C) (ds : List D) → each (each f) (map q cs) ≡ Ok (map h ds) → each f (flat_map q cs) ≡ Ok (flat_map h ds)
  all_at_once [] [] e = refl
  all_at_once [] (d ∷ ds) e = let no : [] ≡ h d ∷ map h ds = ok_same [] (h d ∷ map h ds) e in absurd (cc)
  all_at_once (c ∷ cs) [] e = let p : EachCame (each f) (q c) (map q cs) [] = each_came (each f) (q c) (map q cs) [] e in let no = p.all in absurd (cc)
  all_at_once (c ∷ cs) (d ∷ ds) e =
      let p : EachCame (each f) (q c) (map q cs) (h d ∷ map h ds) = each_came (each f) (q c) (map q cs) (h d ∷ map h ds) e in
      let all = p.all in
      let first : p.first ≡ h d = cc in
      let later : p.later ≡ map h ds = cc in
      each_after f (q c) (flat_map q cs) (h d) (flat_map h ds) (p.makes ∙ ap Ok first) (all_at_once cs ds (p.more ∙ ap Ok later))

module _ (types : WrittenTypesAreDeclared) (actions : WrittenActionsAreDeclared) where
  pub fragments_written : (fs : List (ValidatorSchemaFragment ConditionalName ConditionalName)) (d : Declarations) → AreWritten fs d → (s : Defined) → HasAll fs s
      → (ns : List (NamespaceForm Name (Name × Text))) → each (namespace_resolved s) (all_forms fs) ≡ Ok ns → WritesAll s d (commons_of ns) (entities_of ns) (actions_of ns)
  fragments_written fs d w s has ns h =
      let ws = w.namespaces in
      let k = ap (each (namespace_resolved s)) (sym (wholes_are ws (all_forms fs) w.qualifies)) ∙ h in
      record {
        commons = record {
          declared = types fs d w s has;
          commons = as_written s d.commons (commons_of ns) (subst (λ (e : Declarations). InPlace (IsWrittenAs s) e.commons (commons_of ns)) (sym w.declares) (all_made s (IsWrittenAs s) (λ e. e.commons) (λ n. n.commons) (λ v n m. m.commons) ws ns k));
        };
        declared = actions fs d w s has;
        entities = subst (λ (e : Declarations). InPlace (IsEntityWrittenAs s) e.entities (entities_of ns)) (sym w.declares) (all_made s (IsEntityWrittenAs s) (λ e. e.entities) (λ n. n.entities) (λ v n m. m.entities) ws ns k);
        actions = subst (λ (e : Declarations). InPlace (IsActionWrittenAs s) e.actions (actions_of ns)) (sym w.declares) (all_made s (IsActionWrittenAs s) (λ e. e.actions) (λ n. n.actions) (λ v n m. m.actions) ws ns k);
      }

  pub one_by_one_written : (fs : List (ValidatorSchemaFragment ConditionalName ConditionalName)) (d : Declarations) → AreWritten fs d → (s : Defined) → HasAll fs s
      → (gs : List (ValidatorSchemaFragment InternalName EntityType)) → each (each (namespace_resolved s)) (map (fragment_form conditional_of conditional_of) fs) ≡ Ok (map (fragment_form name_of type_name_of) gs)
      → WritesAll s d (commons_of (resolved_forms gs)) (entities_of (resolved_forms gs)) (actions_of (resolved_forms gs))
  one_by_one_written fs d w s has gs h = fragments_written fs d w s has (resolved_forms gs) (all_at_once (namespace_resolved s) (fragment_form conditional_of conditional_of) (fragment_form name_of type_name_of) fs gs h)
