-- What the namespaces of fragments come to, once their names are resolved.
use Rattle.std.proofs.Common.{◌≡◌, List, Result, Ok, Err, sym, ap, ◌∙◌, subst}
use Rattle.std.specs.Prelude.{Contains}
use Rattle.std.specs.List.{flat_map}
use Rattle.cedar_expr_model.specs.Name.{Text, Name}
use Rattle.cedar_expr_model.specs.Uid.{Uid}
use Rattle.cedar_expr_model.proofs.Lists.{flat_from}
use Rattle.cedar_schema_decl.specs.Conditional.{Conditional, conditional_of}
use Rattle.cedar_schema_decl.specs.Defined.{Defined, resolving}
use Rattle.cedar_schema_decl.specs.Forms.{TypeForm, EntityForm, ActionForm}
use Rattle.cedar_schema_decl.specs.Requalified.{and_then, requalified, requalified_entity, under_name, each}
use Rattle.cedar_schema_fragments.specs.Namespaces.{fragment_form}
use Rattle.cedar_schema_fragments.specs.Resolved.{of_types, action_resolved, with_uid, commons_resolved, entities_resolved, namespace_resolved}
use Rattle.cedar_schema_fragments.specs.WrittenDeclarations.{all_forms}
use Rattle.cedar_schema_builder.specs.AllResolved.{all_resolved}
use Rattle.cedar_schema_builder.specs.WrittenNames.{entities_of as entities_in, entities_named}
use Rattle.cedar_schema_resolver.specs.Solved.{names_of}
use Rattle.cedar_schema_builder.specs.Writing.{CommonForms, EntityForms, ActionForms, commons_of, entities_of, actions_of, names_of_entities, uids_of_actions}
use Rattle.cedar_schema_builder.specs.OfFragments.{Fragments, AsDeclared, AsResolved, commons_in, actions_in, commons_named, actions_named, all_of}
use Rattle.cedar_schema_builder.proofs.Coming.{ok_same, bind_made, each_from, each_same, each_alike, each_flat, map_flat}

pub of_types_made : {B : Type 0} (o : Result B Conditional) (y : B) → of_types o ≡ Ok y → o ≡ Ok y
of_types_made (Ok x) y h = cc
of_types_made (Err c) y h = absurd (cc)

-- what stands under a name, or under a uid
pub under_made : {K A B R : Type 0} (f : A → Result B R) (p : K × A) (q : K × B) → and_then (λ y. Ok (p.0, y)) (f p.1) ≡ Ok q → (q.0 ≡ p.0) × (f p.1 ≡ Ok q.1)
under_made f p q h =
    let a = bind_made (λ y. Ok (p.0, y)) (f p.1) q h in
    let e = ok_same (p.0, a.0) q a.2 in
    (ap (λ z. z.0) (sym e), a.1 ∙ ap (λ z. Ok z.1) e)

module _ (s : Defined) where
  -- a namespace
  pub record SpaceMade (n : AsDeclared) (m : AsResolved) : Type 0 where
    pub commons : each (under_name (requalified (resolving s))) n.commons ≡ Ok m.commons
    pub entities : each (under_name (requalified_entity (resolving s))) n.entities ≡ Ok m.entities
    pub actions : each (with_uid (action_resolved s)) n.actions ≡ Ok m.actions

  abbrev of_parts : AsDeclared → CommonForms → EntityForms → ActionForms → AsResolved
  of_parts n cs es us = record { namespace = n.namespace; commons = cs; entities = es; actions = us }

  pub space_made : (n : AsDeclared) (m : AsResolved) → namespace_resolved s n ≡ Ok m → SpaceMade n m
  space_made n m h =
      let a = bind_made (λ cs. and_then (λ es. and_then (λ us. Ok (of_parts n cs es us)) (each (with_uid (action_resolved s)) n.actions)) (of_types (entities_resolved s n.entities))) (of_types (commons_resolved s n.commons)) m h in
      let b = bind_made (λ es. and_then (λ us. Ok (of_parts n a.0 es us)) (each (with_uid (action_resolved s)) n.actions)) (of_types (entities_resolved s n.entities)) m a.2 in
      let c = bind_made (λ us. Ok (of_parts n a.0 b.0 us)) (each (with_uid (action_resolved s)) n.actions) m b.2 in
      subst (SpaceMade n) {x = of_parts n a.0 b.0 c.0} (ok_same (of_parts n a.0 b.0 c.0) m c.2)
      (record { commons = of_types_made (commons_resolved s n.commons) a.0 a.1; entities = of_types_made (entities_resolved s n.entities) b.0 b.1; actions = c.1 })

  -- all of them
  module _ (fs : Fragments) (gs : List (List AsResolved)) (h : all_resolved s fs ≡ Ok gs) where
    pub all_made : each (namespace_resolved s) (all_forms fs) ≡ Ok (all_of gs)
    all_made = each_flat (namespace_resolved s) (fragment_form conditional_of conditional_of) fs ∙ ap (and_then (λ yss. Ok (flat_map (λ ys. ys) yss))) h

    -- the namespace that one comes of
    pub record ComesOf (m : AsResolved) : Type 0 where
      pub space : AsDeclared
      pub there : Contains (all_forms fs) space
      pub made : SpaceMade space m

    pub space_from : (m : AsResolved) → Contains (all_of gs) m → ComesOf m
    space_from m k = let a = each_from (namespace_resolved s) (all_forms fs) (all_of gs) all_made m k in record { space = a.0; there = a.1; made = space_made a.0 m a.2 }

    -- what a common type, an entity type and an action come of
    pub common_from : (p : Name × TypeForm Name) → Contains (commons_of (all_of gs)) p → (n : AsDeclared) × Contains (all_forms fs) n × ((c : Name × TypeForm Conditional) × Contains n.commons c × (p.0 ≡ c.0) × (requalified (resolving s) c.1 ≡ Ok p.1))
    common_from p k =
        let a = flat_from (λ (m : AsResolved). m.commons) (all_of gs) p k in
        let b = space_from a.0 a.1 in
        let c = each_from (under_name (requalified (resolving s))) b.space.commons a.0.commons b.made.commons p a.2 in
        let u = under_made (requalified (resolving s)) c.0 p c.2 in
        (b.space, b.there, (c.0, c.1, u.0, u.1))

    pub entity_from : (p : Name × EntityForm Name) → Contains (entities_of (all_of gs)) p → (n : AsDeclared) × Contains (all_forms fs) n × ((e : Name × EntityForm Conditional) × Contains n.entities e × (p.0 ≡ e.0) × (requalified_entity (resolving s) e.1 ≡ Ok p.1))
    entity_from p k =
        let a = flat_from (λ (m : AsResolved). m.entities) (all_of gs) p k in
        let b = space_from a.0 a.1 in
        let c = each_from (under_name (requalified_entity (resolving s))) b.space.entities a.0.entities b.made.entities p a.2 in
        let u = under_made (requalified_entity (resolving s)) c.0 p c.2 in
        (b.space, b.there, (c.0, c.1, u.0, u.1))

    pub action_from : (p : Uid × ActionForm Name (Name × Text)) → Contains (actions_of (all_of gs)) p → (n : AsDeclared) × Contains (all_forms fs) n × ((a : Uid × ActionForm Conditional (Conditional × Text)) × Contains n.actions a × (p.0 ≡ a.0) × (action_resolved s a.1 ≡ Ok p.1))
    action_from p k =
        let a = flat_from (λ (m : AsResolved). m.actions) (all_of gs) p k in
        let b = space_from a.0 a.1 in
        let c = each_from (with_uid (action_resolved s)) b.space.actions a.0.actions b.made.actions p a.2 in
        let u = under_made (action_resolved s) c.0 p c.2 in
        (b.space, b.there, (c.0, c.1, u.0, u.1))

    -- names and uids are the declared ones
    pub commons_same : names_of (commons_of (all_of gs)) ≡ commons_named fs
    commons_same =
        map_flat (λ (p : Name × TypeForm Name). p.0) (λ (m : AsResolved). m.commons) (all_of gs)
        ∙ each_alike (namespace_resolved s) commons_in (λ m. names_of m.commons)
        (λ n m k. each_same (under_name (requalified (resolving s))) (λ c. c.0) (λ p. p.0) (λ c p q. (under_made (requalified (resolving s)) c p q).0) n.commons m.commons (space_made n m k).commons)
        (all_forms fs) (all_of gs) all_made

    pub entities_same : names_of_entities (entities_of (all_of gs)) ≡ entities_named fs
    entities_same =
        map_flat (λ (p : Name × EntityForm Name). p.0) (λ (m : AsResolved). m.entities) (all_of gs)
        ∙ each_alike (namespace_resolved s) entities_in (λ m. names_of_entities m.entities)
        (λ n m k. each_same (under_name (requalified_entity (resolving s))) (λ e. e.0) (λ p. p.0) (λ e p q. (under_made (requalified_entity (resolving s)) e p q).0) n.entities m.entities (space_made n m k).entities)
        (all_forms fs) (all_of gs) all_made

    pub actions_same : uids_of_actions (actions_of (all_of gs)) ≡ actions_named fs
    actions_same =
        map_flat (λ (p : Uid × ActionForm Name (Name × Text)). p.0) (λ (m : AsResolved). m.actions) (all_of gs)
        ∙ each_alike (namespace_resolved s) actions_in (λ m. uids_of_actions m.actions)
        (λ n m k. each_same (with_uid (action_resolved s)) (λ a. a.0) (λ p. p.0) (λ a p q. (under_made (action_resolved s) a p q).0) n.actions m.actions (space_made n m k).actions)
        (all_forms fs) (all_of gs) all_made
