-- What shadows by the sets shadows in the declarations, under the same name.
use Rattle.std.proofs.Common.{◌≡◌, Bool, true, false, ◌||◌, Option, Some, None, option_map, find, refl, sym, ◌∙◌, inl, inr, ⊎_elim}
use Rattle.std.proofs.lemmas.List.Elements.{Contains-append_left, Contains-append_right}
use Rattle.std.specs.Prelude.{Contains, ◌⊎◌, not}
use Rattle.std.specs.List.{list_any}
use Rattle.std.specs.Option.{option_or}
use Rattle.cedar_expr_model.specs.Name.{Name, name_eq}
use Rattle.cedar_expr_model.specs.Uid.{Uid, uid_eq}
use Rattle.cedar_expr_model.specs.Names.{is_unqualified, unqualified}
use Rattle.cedar_expr_model.proofs.Equality.{name_eq-Decides, uid_eq-Decides}
use Rattle.cedar_expr_model.proofs.Lists.{both_hold, found-Decides}
use Rattle.cedar_schema_model.specs.Declarations.{Declarations, common_names, entity_names, action_uids}
use Rattle.cedar_schema_model.specs.Reference.{meant_common, meant_entity}
use Rattle.cedar_schema_model.specs.WellFormed.{declared_types, unqualified_uid}
use Rattle.cedar_schema_decl.specs.Defined.{Defined, is_defined_action}
use Rattle.cedar_schema_decl.specs.Laws.{HasDeclared}
use Rattle.cedar_schema_decl.specs.Shadowing.{is_type, type_shadows, action_shadows, Shadowing, shadowing_type, shadowing_action, first_shadowing}
use Rattle.cedar_schema_fragments.specs.Laws.{HasActions}
use Rattle.cedar_schema_builder.specs.Named.{IsTypeShadowing, IsActionShadowing}
use Rattle.cedar_schema_builder.proofs.Coming.{found_there}

-- which of them it is
abbrev first_of : Option Name → Option Name → Option Uid → Option Shadowing
first_of o p q = option_or (option_map shadowing_type o) (option_or (option_map shadowing_type p) (option_map shadowing_action q))

a_type : (o p : Option Name) (q : Option Uid) (n : Name) → first_of o p q ≡ Some (shadowing_type n) → (o ≡ Some n) ⊎ (p ≡ Some n)
a_type (Some m) p q n h = inl cc
a_type None (Some m) q n h = inr cc
a_type None None (Some u) n h = absurd (cc)
a_type None None None n h = absurd (cc)

an_action : (o p : Option Name) (q : Option Uid) (u : Uid) → first_of o p q ≡ Some (shadowing_action u) → q ≡ Some u
an_action (Some m) p q u h = absurd (cc)
an_action None (Some m) q u h = absurd (cc)
an_action None None (Some v) u h = cc
an_action None None None u h = absurd (cc)

either : (a b : Bool) → (a || b) ≡ true → (a ≡ true) ⊎ (b ≡ true)
either true b h = inl refl
either false b h = inr h

module _ (s : Defined) (d : Declarations) (has : HasDeclared s d) (acts : HasActions s d) where
  common_there : (n : Name) → list_any (name_eq n) s.commons ≡ true → Contains (declared_types d) n
  common_there n h = Contains-append_left (common_names d) _ n ((found-Decides name_eq name_eq-Decides n (common_names d)).0 (sym (has (meant_common n)) ∙ h))

  entity_there : (n : Name) → list_any (name_eq n) s.entities ≡ true → Contains (declared_types d) n
  entity_there n h = Contains-append_right (common_names d) _ n ((found-Decides name_eq name_eq-Decides n (entity_names d)).0 (sym (has (meant_entity n)) ∙ h))

  action_there : (u : Uid) → is_defined_action s u ≡ true → Contains (action_uids d) u
  action_there u h = (found-Decides uid_eq uid_eq-Decides u (action_uids d)).0 (sym (acts u) ∙ h)

  type_there : (n : Name) → is_type s n ≡ true → Contains (declared_types d) n
  type_there n h = ⊎_elim (λ k. common_there n k) (λ k. entity_there n k) (either (list_any (name_eq n) s.commons) (list_any (name_eq n) s.entities) h)

  shadows_there : (n : Name) → Contains (declared_types d) n → type_shadows s n ≡ true → IsTypeShadowing d n
  shadows_there n h k = let p = both_hold (not (is_unqualified n)) (is_type s (unqualified n.base)) k in (h, p.0, type_there (unqualified n.base) p.1)

  common_shadows : (n : Name) → find (type_shadows s) s.commons ≡ Some n → IsTypeShadowing d n
  common_shadows n h = let r = found_there (type_shadows s) s.commons n h in shadows_there n (common_there n ((found-Decides name_eq name_eq-Decides n s.commons).1 r.0)) r.1

  entity_shadows : (n : Name) → find (type_shadows s) s.entities ≡ Some n → IsTypeShadowing d n
  entity_shadows n h = let r = found_there (type_shadows s) s.entities n h in shadows_there n (entity_there n ((found-Decides name_eq name_eq-Decides n s.entities).1 r.0)) r.1

  pub type_named : (n : Name) → first_shadowing s ≡ Some (shadowing_type n) → IsTypeShadowing d n
  type_named n h = ⊎_elim (λ k. common_shadows n k) (λ k. entity_shadows n k) (a_type (find (type_shadows s) s.commons) (find (type_shadows s) s.entities) (find (action_shadows s) s.actions) n h)

  pub action_named : (u : Uid) → first_shadowing s ≡ Some (shadowing_action u) → IsActionShadowing d u
  action_named u h =
      let r = found_there (action_shadows s) s.actions u (an_action (find (type_shadows s) s.commons) (find (type_shadows s) s.entities) (find (action_shadows s) s.actions) u h) in
      let p = both_hold (not (is_unqualified u.kind)) (is_defined_action s (unqualified_uid u)) r.1 in
      (action_there u ((found-Decides uid_eq uid_eq-Decides u s.actions).1 r.0), p.0, action_there (unqualified_uid u) p.1)
