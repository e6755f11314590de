-- Every reference and every parent in the declarations means something, and names that are meant are declared.
use Rattle.std.proofs.Common.{◌≡◌, List, [], ◌∷◌, Some, None, sym, ap, ◌∙◌, ⊎_elim}
use Rattle.std.specs.Prelude.{Contains}
use Rattle.std.specs.List.{flat_map}
use Rattle.std.proofs.lemmas.List.Elements.{Contains-append_left, Contains-append_right, Contains-append_cases}
use Rattle.cedar_expr_model.specs.Name.{Text, Name}
use Rattle.cedar_expr_model.specs.Uid.{Uid}
use Rattle.cedar_expr_model.proofs.Lists.{map_from, flat_has, flat_from}
use Rattle.cedar_schema_model.specs.Reference.{Namespace, to_entity, Reference}
use Rattle.cedar_schema_model.specs.Declarations.{TypeExpr, CommonDeclaration, EntityDeclaration, ActionDeclaration, Declarations, common_name, entity_name, action_uid, common_names, entity_names, action_uids, meant, parent_meant, references_in, extensions_in, to_entities, references_of_common, references_of_entity, references_of_action, references, extensions}
use Rattle.cedar_schema_model.specs.Declarations as written
use Rattle.cedar_schema_model.specs.Resolved.{entity_of}
use Rattle.cedar_schema_decl.specs.Defined.{Defined}
use Rattle.cedar_schema_decl.specs.Forms.{TypeForm, EntityForm, ActionForm}
use Rattle.cedar_schema_decl.specs.Laws.{NamesMeanReferences, RefusedWhereUndeclared}
use Rattle.cedar_schema_resolver.specs.Laws.{IsWrittenAs, AreWrittenAs}
use Rattle.cedar_schema_resolver.specs.Solved.{names_of}
use Rattle.cedar_schema_assembly.specs.Told.{types_in}
use Rattle.cedar_schema_builder.specs.Writing.{CommonForms, EntityForms, ActionForms, InPlace, IsEntityWrittenAs, IsActionWrittenAs, WritesAll, names_of_entities, uids_of_actions}
use Rattle.cedar_schema_builder.proofs.ResolvedComing.{in_its_place, in_whose_place, seen_same}
use Rattle.cedar_schema_builder.proofs.Written.{TypeWritten, means_something, MeansEntity, MeansAction, EntityStands, ActionStands, entity_stands, action_stands}

-- common types
placed : (s : Defined) (cs : List CommonDeclaration) (ps : CommonForms) → AreWrittenAs s cs ps → InPlace (IsWrittenAs s) cs ps
placed s [] [] w = tt
placed s [] (p ∷ ps) w = w
placed s (c ∷ cs) [] w = w
placed s (c ∷ cs) (p ∷ ps) w = (w.0, placed s cs ps w.1)

pub of_common : (s : Defined) (c : CommonDeclaration) (p : Name × TypeForm Name) → IsWrittenAs s c p → TypeWritten s c.namespace c.definition p.1
of_common s c p w = record { space = w.space; form = w.form; namespace = w.namespace; definition = w.definition; resolves = w.resolved }

absent : (m : Name) → None ≡ Some m → ⊥
absent m e = cc

no_action : (u : Uid) → None ≡ Some u → ⊥
no_action u e = cc

module _ (names : NamesMeanReferences) (refused : RefusedWhereUndeclared) (s : Defined) (d : Declarations) (cs : CommonForms) (es : EntityForms) (as_ : ActionForms) (w : WritesAll s d cs es as_) where
  pub entity_of_writer : (e : EntityDeclaration) (p : Name × EntityForm Name) → IsEntityWrittenAs s e p → EntityStands s d e p
  entity_of_writer e p k = entity_stands names s d w.commons.declared e p k

  pub action_of_writer : (a : ActionDeclaration) (p : Uid × ActionForm Name (Name × Text)) → IsActionWrittenAs s a p → ActionStands s d a p
  action_of_writer a p k = action_stands names s d w.commons.declared w.declared a p k

  pub common_writes : (c : CommonDeclaration) → Contains d.commons c → (p : Name × TypeForm Name) × Contains cs p × IsWrittenAs s c p
  common_writes c h = in_its_place (IsWrittenAs s) d.commons cs (placed s d.commons cs w.commons.commons) c h

  pub common_written : (p : Name × TypeForm Name) → Contains cs p → (c : CommonDeclaration) × Contains d.commons c × IsWrittenAs s c p
  common_written p h = in_whose_place (IsWrittenAs s) d.commons cs (placed s d.commons cs w.commons.commons) p h

  pub entity_writes : (e : EntityDeclaration) → Contains d.entities e → (p : Name × EntityForm Name) × Contains es p × EntityStands s d e p
  entity_writes e h = let r = in_its_place (IsEntityWrittenAs s) d.entities es w.entities e h in (r.0, r.1, entity_of_writer e r.0 r.2)

  pub action_writes : (a : ActionDeclaration) → Contains d.actions a → (p : Uid × ActionForm Name (Name × Text)) × Contains as_ p × ActionStands s d a p
  action_writes a h = let r = in_its_place (IsActionWrittenAs s) d.actions as_ w.actions a h in (r.0, r.1, action_of_writer a r.0 r.2)

  pub entity_written : (p : Name × EntityForm Name) → Contains es p → (e : EntityDeclaration) × Contains d.entities e × EntityStands s d e p
  entity_written p h = let r = in_whose_place (IsEntityWrittenAs s) d.entities es w.entities p h in (r.0, r.1, entity_of_writer r.0 p r.2)

  pub action_written : (p : Uid × ActionForm Name (Name × Text)) → Contains as_ p → (a : ActionDeclaration) × Contains d.actions a × ActionStands s d a p
  action_written p h = let r = in_whose_place (IsActionWrittenAs s) d.actions as_ w.actions p h in (r.0, r.1, action_of_writer r.0 p r.2)

  -- What is written has the names of the declared common types and entity types, and the uids of the declared actions.
  pub same_commons : names_of cs ≡ common_names d
  same_commons = seen_same (IsWrittenAs s) common_name (λ p. p.0) (λ c p k. k.name) d.commons cs (placed s d.commons cs w.commons.commons)

  pub same_entities : names_of_entities es ≡ entity_names d
  same_entities = seen_same (IsEntityWrittenAs s) entity_name (λ p. p.0) (λ e p k. (entity_of_writer e p k).name) d.entities es w.entities

  pub same_actions : uids_of_actions as_ ≡ action_uids d
  same_actions = seen_same (IsActionWrittenAs s) action_uid (λ p. p.0) (λ a p k. (action_of_writer a p k).uid) d.actions as_ w.actions

  -- each reference
  abbrev IsMeant : Reference → Type 0
  IsMeant q = meant d q ≡ None → ⊥

  type_means : (ns : Namespace) (t : TypeExpr) (r : TypeForm Name) → TypeWritten s ns t r → (q : Reference) → Contains (references_in ns t) q → IsMeant q
  type_means ns t r k q h = means_something refused s d w.commons.declared ns t r k q h

  entities_mean : (ns : Namespace) (ms : List Name) (rs : List Name) → InPlace (MeansEntity d ns) ms rs → (q : Reference) → Contains (to_entities ns ms) q → IsMeant q
  entities_mean ns ms rs k q h e =
      let n = map_from (λ m. record { namespace = ns; kind = to_entity; name = m }) ms q h in
      let r = in_its_place (MeansEntity d ns) ms rs k n.0 n.1 in
      absent r.0 (ap entity_of (sym (ap (meant d) n.2 ∙ e)) ∙ r.2)

  common_means : (c : CommonDeclaration) → Contains d.commons c → (q : Reference) → Contains (references_of_common c) q → IsMeant q
  common_means c h q k = let p = common_writes c h in type_means c.namespace c.definition p.0.1 (of_common s c p.0 p.2) q k

  entity_means : (e : EntityDeclaration) → Contains d.entities e → (q : Reference) → Contains (references_of_entity e) q → IsMeant q
  entity_means e h q k =
      let p = entity_writes e h in
      ⊎_elim
      (λ i. entities_mean e.namespace e.parents _ p.2.parents q i)
      (λ i. let t = flat_from (references_in e.namespace) (written.types_in e.kind) q i in
      let r = in_its_place (TypeWritten s e.namespace) (written.types_in e.kind) (types_in p.0.1) p.2.types t.0 t.1 in
      type_means e.namespace t.0 r.0 r.2 q t.2)
      (Contains-append_cases (to_entities e.namespace e.parents) _ q k)

  action_means : (a : ActionDeclaration) → Contains d.actions a → (q : Reference) → Contains (references_of_action a) q → IsMeant q
  action_means a h q k =
      let p = action_writes a h in
      ⊎_elim
      (λ i. entities_mean a.namespace a.principals _ p.2.principals q i)
      (λ i. ⊎_elim (λ j. entities_mean a.namespace a.resources _ p.2.resources q j) (λ j. type_means a.namespace a.context p.0.1.context p.2.context q j) (Contains-append_cases (to_entities a.namespace a.resources) _ q i))
      (Contains-append_cases (to_entities a.namespace a.principals) _ q k)

  pub references_mean : (q : Reference) → Contains (references d) q → meant d q ≡ None → ⊥
  references_mean q h =
      ⊎_elim
      (λ i. let c = flat_from references_of_common d.commons q i in common_means c.0 c.1 q c.2)
      (λ i. ⊎_elim (λ j. let e = flat_from references_of_entity d.entities q j in entity_means e.0 e.1 q e.2) (λ j. let a = flat_from references_of_action d.actions q j in action_means a.0 a.1 q a.2) (Contains-append_cases (flat_map references_of_entity d.entities) _ q i))
      (Contains-append_cases (flat_map references_of_common d.commons) _ q h)

  pub parents_mean : (a : ActionDeclaration) → Contains d.actions a → (u : Uid) → Contains a.parents u → parent_meant d a.namespace u ≡ None → ⊥
  parents_mean a h u k e =
      let p = action_writes a h in
      let r = in_its_place (MeansAction d a.namespace) a.parents p.0.1.parents p.2.parents u k in
      no_action _ (sym e ∙ r.2)

-- the extension types of a type that stands in the declarations
pub extension_of_common : (d : Declarations) (c : CommonDeclaration) → Contains d.commons c → (n : Name) → Contains (extensions_in c.definition) n → Contains (extensions d) n
extension_of_common d c h n k = Contains-append_left (flat_map (λ (b : CommonDeclaration). extensions_in b.definition) d.commons) _ n (flat_has (λ (b : CommonDeclaration). extensions_in b.definition) d.commons c n h k)

pub extension_of_entity : (d : Declarations) (e : EntityDeclaration) → Contains d.entities e → (t : TypeExpr) → Contains (written.types_in e.kind) t → (n : Name) → Contains (extensions_in t) n → Contains (extensions d) n
extension_of_entity d e h t i n k =
    Contains-append_right (flat_map (λ (b : CommonDeclaration). extensions_in b.definition) d.commons) _ n
    (Contains-append_left (flat_map (λ (b : EntityDeclaration). flat_map extensions_in (written.types_in b.kind)) d.entities) _ n
    (flat_has (λ (b : EntityDeclaration). flat_map extensions_in (written.types_in b.kind)) d.entities e n h (flat_has extensions_in (written.types_in e.kind) t n i k)))

pub extension_of_action : (d : Declarations) (a : ActionDeclaration) → Contains d.actions a → (n : Name) → Contains (extensions_in a.context) n → Contains (extensions d) n
extension_of_action d a h n k =
    Contains-append_right (flat_map (λ (b : CommonDeclaration). extensions_in b.definition) d.commons) _ n
    (Contains-append_right (flat_map (λ (b : EntityDeclaration). flat_map extensions_in (written.types_in b.kind)) d.entities) _ n
    (flat_has (λ (b : ActionDeclaration). extensions_in b.context) d.actions a n h k))
