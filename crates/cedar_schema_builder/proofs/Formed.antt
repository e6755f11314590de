-- Where nothing is wrong with what is resolved the declarations are well-formed.
use Rattle.std.proofs.Common.{◌≡◌, Bool, true, false, refl, sym, ap, ◌∙◌, subst, ⊎_elim}
use Rattle.std.specs.Prelude.{Contains, is_some}
use Rattle.std.proofs.lemmas.Bool.{true≢false}
use Rattle.std.specs.List.{flat_map}
use Rattle.std.proofs.lemmas.List.Elements.{Contains-append_cases}
use Rattle.cedar_expr_model.specs.Name.{Name}
use Rattle.cedar_expr_model.specs.Uid.{Uid}
use Rattle.cedar_expr_model.proofs.Lists.{all_each, flat_from}
use Rattle.cedar_schema_model.specs.BagLaws.{HasTwice, Uses, HasParentAction, HasSchemaFault}
use Rattle.cedar_schema_model.specs.Reference.{Namespace}
use Rattle.cedar_schema_model.specs.Declarations.{TypeExpr, CommonDeclaration, EntityDeclaration, ActionDeclaration, Declarations, extensions_in, extensions, meant}
use Rattle.cedar_schema_model.specs.Declarations as written
use Rattle.cedar_schema_model.specs.Descent.{Reaches, HasActionParent, ActionDescends}
use Rattle.cedar_schema_model.specs.Resolved.{schema_of}
use Rattle.cedar_schema_model.specs.WellFormed.{SchemaFault, duplicate_entity_type, duplicate_common_type, duplicate_action, undeclared_type, undeclared_action, cycle_of_common_types, cycle_of_actions, action_as_entity_type, context_not_record, reserved_name, shadowing, unknown_extension_type, unresolved_external, ill_forms, becomes_record, IsWellFormed}
use Rattle.cedar_schema_model.proofs.Decls.Faults.{schema_fault-Decides, where_no_schema_fault}
use Rattle.cedar_schema_model.proofs.Decls.Reordered.{reaches_along}
use Rattle.cedar_schema_model.proofs.Decls.Schema.{action_parents_meant}
use Rattle.cedar_schema_model.specs.Contexts.{ContextsBecomeRecords}
use Rattle.cedar_schema_decl.specs.Forms.{TypeForm}
use Rattle.cedar_schema_decl.specs.Laws.{NamesMeanReferences, RefusedWhereUndeclared}
use Rattle.cedar_schema_fragments.specs.Laws.{ShadowingIsDeclared}
use Rattle.cedar_schema_resolver.specs.Laws.{SolvedTypesAreResolved, UsesAreDeclared}
use Rattle.cedar_schema_resolver.specs.Meanings.{Setting}
use Rattle.cedar_schema_resolver.specs.Refusals.{AreKnown}
use Rattle.cedar_schema_resolver.specs.Uses.{UsesIn}
use Rattle.cedar_schema_assembly.specs.Told.{types_in}
use Rattle.cedar_schema_builder.specs.ResolvedLaws.{AreTold, AreFaultless, ResolvedDeclarationsTellTheSchema}
use Rattle.cedar_schema_builder.specs.Writing.{CommonForms, EntityForms, ActionForms}
use Rattle.cedar_schema_builder.proofs.ResolvedComing.{in_its_place}
use Rattle.cedar_schema_builder.proofs.Written.{TypeWritten, extensions_same}
use Rattle.cedar_schema_builder.proofs.Meant.{of_common, common_writes, entity_writes, action_writes, same_entities, same_actions, references_mean, parents_mean}
use Rattle.cedar_schema_builder.proofs.ResolvedFaults.{commons_once, context_is}

-- an external declaration makes nothing ill-formed
is_ill : SchemaFault → Bool
is_ill duplicate_entity_type = true
is_ill duplicate_common_type = true
is_ill duplicate_action = true
is_ill undeclared_type = true
is_ill undeclared_action = true
is_ill cycle_of_common_types = true
is_ill cycle_of_actions = true
is_ill action_as_entity_type = true
is_ill context_not_record = true
is_ill reserved_name = true
is_ill shadowing = true
is_ill unknown_extension_type = true
is_ill unresolved_external = false

not_ill : Contains ill_forms unresolved_external → ⊥
unfolding is_ill
not_ill h = true≢false (sym (all_each is_ill ill_forms refl unresolved_external h))

module _ (names : NamesMeanReferences) (refused : RefusedWhereUndeclared) (types : SolvedTypesAreResolved) (uses : UsesAreDeclared) (becomes : ContextsBecomeRecords) (shadows : ShadowingIsDeclared) (tells : ResolvedDeclarationsTellTheSchema)
    (s : Setting) (d : Declarations) (cs : CommonForms) (es : EntityForms) (as_ : ActionForms) (t : AreTold s d cs es as_) (f : AreFaultless s d es as_) where
  -- extension types
  known : (ns : Namespace) (e : TypeExpr) (r : TypeForm Name) → TypeWritten s.defined ns e r → AreKnown s.extensions r → (n : Name) → Contains (extensions_in e) n → Contains s.extensions n
  known ns e r w k n h = k.each n (subst (λ l. Contains l n) (sym (extensions_same s.defined ns e r w)) h)

  known_in_common : (c : CommonDeclaration) → Contains d.commons c → (n : Name) → Contains (extensions_in c.definition) n → Contains s.extensions n
  known_in_common c h n k =
      let p = common_writes names refused s.defined d cs es as_ t.writes c h in
      known c.namespace c.definition p.0.1 (of_common s.defined c p.0 p.2) (t.solved.known p.0.0 p.0.1 p.1) n k

  known_in_entity : (e : EntityDeclaration) → Contains d.entities e → (n : Name) → Contains (flat_map extensions_in (written.types_in e.kind)) n → Contains s.extensions n
  known_in_entity e h n k =
      let p = entity_writes names refused s.defined d cs es as_ t.writes e h in
      let x = flat_from extensions_in (written.types_in e.kind) n k in
      let r = in_its_place (TypeWritten s.defined e.namespace) (written.types_in e.kind) (types_in p.0.1) p.2.types x.0 x.1 in
      known e.namespace x.0 r.0 r.2 (f.types_known p.0 p.1 r.0 r.1) n x.2

  known_in_action : (a : ActionDeclaration) → Contains d.actions a → (n : Name) → Contains (extensions_in a.context) n → Contains s.extensions n
  known_in_action a h n k =
      let p = action_writes names refused s.defined d cs es as_ t.writes a h in
      known a.namespace a.context p.0.1.context p.2.context (f.contexts_known p.0 p.1) n k

  all_known : (n : Name) → Contains (extensions d) n → Contains s.extensions n
  all_known n h =
      ⊎_elim
      (λ i. let c = flat_from (λ (b : CommonDeclaration). extensions_in b.definition) d.commons n i in known_in_common c.0 c.1 n c.2)
      (λ i. ⊎_elim
      (λ j. let e = flat_from (λ (b : EntityDeclaration). flat_map extensions_in (written.types_in b.kind)) d.entities n j in known_in_entity e.0 e.1 n e.2)
      (λ j. let a = flat_from (λ (b : ActionDeclaration). extensions_in b.context) d.actions n j in known_in_action a.0 a.1 n a.2)
      (Contains-append_cases (flat_map (λ (b : EntityDeclaration). flat_map extensions_in (written.types_in b.kind)) d.entities) _ n i))
      (Contains-append_cases (flat_map (λ (b : CommonDeclaration). extensions_in b.definition) d.commons) _ n h)

  cycle_told : (u : Uid) → Reaches (HasParentAction d) u u → ⊥
  cycle_told u r = f.apart u (subst (λ z. ActionDescends z u u) (sym (tells s d cs es as_ t)) (reaches_along (HasParentAction d) (HasActionParent (schema_of d)) (λ x y. (action_parents_meant d x y).1) u u r))

  contexts_are : (a : ActionDeclaration) → Contains d.actions a → becomes_record d a ≡ false → ⊥
  contexts_are a h e =
      let p = action_writes names refused s.defined d cs es as_ t.writes a h in
      true≢false (sym (f.contexts p.0 p.1) ∙ sym (context_is names refused types becomes s d cs es as_ t a p.0 p.2) ∙ e)

  none_shadows : HasSchemaFault s.extensions d shadowing → ⊥
  none_shadows h = true≢false (sym ((schema_fault-Decides s.extensions d shadowing).1 h) ∙ sym (shadows s.defined d t.writes.commons.declared t.writes.declared) ∙ ap is_some f.none_shadows)

  faultless : (k : SchemaFault) → Contains ill_forms k → HasSchemaFault s.extensions d k → ⊥
  faultless duplicate_entity_type i h = f.types_once (subst HasTwice (sym (same_entities names refused s.defined d cs es as_ t.writes)) h)
  faultless duplicate_common_type i h = commons_once names refused types becomes s d cs es as_ t h
  faultless duplicate_action i h = f.actions_once (subst HasTwice (sym (same_actions names refused s.defined d cs es as_ t.writes)) h)
  faultless undeclared_type i h = references_mean names refused s.defined d cs es as_ t.writes h.0 h.1 h.2
  faultless undeclared_action i h = parents_mean names refused s.defined d cs es as_ t.writes h.0 h.1 h.2.0 h.2.1 h.2.2
  faultless cycle_of_common_types i h = t.solved.apart h.0 (reaches_along (Uses d) (UsesIn s.defined cs) (λ x y. (uses s.defined d cs t.writes.commons x y).1) h.0 h.0 h.1)
  faultless cycle_of_actions i h = cycle_told h.0 h.1
  faultless action_as_entity_type i h = f.no_action_type h
  faultless context_not_record i h = contexts_are h.0 h.1 h.2
  faultless reserved_name i h = f.none_reserved h
  faultless shadowing i h = none_shadows h
  faultless unknown_extension_type i h = h.2 (all_known h.0 h.1)
  faultless unresolved_external i h = not_ill i

  pub well_formed : IsWellFormed s.extensions d
  well_formed = where_no_schema_fault s.extensions d faultless
