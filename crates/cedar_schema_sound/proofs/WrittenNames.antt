-- The entity types that fragments declare have well-formed names.
use Rattle.std.proofs.Common.{◌≡◌, List, map, true, sym, ap, ◌∙◌, subst}
use Rattle.std.specs.Prelude.{Contains}
use Rattle.cedar_expr_model.specs.Name.{Name, is_well_formed}
use Rattle.cedar_expr_model.proofs.Lists.{map_has, map_from, flat_from}
use Rattle.cedar_expr_names.proofs.Equality.{well_formed}
use Rattle.cedar_expr_leaves.specs.declared.conditional_name.ConditionalName.{ConditionalName}
use Rattle.cedar_schema_model.specs.Declarations.{Declarations, entity_name, entity_names}
use Rattle.cedar_schema_decl.specs.Conditional.{Conditional, conditional_of}
use Rattle.cedar_schema_decl.specs.Forms.{EntityForm}
use Rattle.cedar_schema_fragments.proofs.Wholes.{whole, wholes_are}
use Rattle.cedar_schema_fragments.specs.Namespaces.{fragment_form}
use Rattle.cedar_schema_fragments.specs.Qualified.{entity_qualified}
use Rattle.cedar_schema_fragments.specs.Written.{WrittenNamespace}
use Rattle.cedar_schema_fragments.specs.WrittenDeclarations.{entity_declaration, declared_in, declarations_of, all_forms, AreWritten}
use Rattle.cedar_schema_fragments.specs.declared.namespace_def.ValidatorSchemaFragment.{ValidatorSchemaFragment}
use Rattle.cedar_schema_sound.proofs.Plain.{AreNamed}

abbrev Fragment : Type 0
Fragment = ValidatorSchemaFragment ConditionalName ConditionalName

-- what stands under a name in the forms of fragments
form_named : (fs : List Fragment) (w : WrittenNamespace) → Contains (all_forms fs) (whole w) → (e : Name × EntityForm Conditional) → Contains (whole w).entities e → is_well_formed e.0 ≡ true
form_named fs w h e k =
    let f = flat_from (fragment_form conditional_of conditional_of) fs (whole w) h in
    let n = map_from _ f.0.0.items (whole w) f.2 in
    let there = subst (λ form. Contains form.entities e) (sym n.2) k in
    let p = map_from _ n.0.entity_types.defs.items e there in
    subst (λ (x : Name × EntityForm Conditional). is_well_formed x.0 ≡ true) p.2 (well_formed p.0.0)

pub written_named : (fs : List Fragment) (d : Declarations) → AreWritten fs d → AreNamed d
written_named fs d w n h =
    let ws = w.namespaces in
    let t = map_from entity_name (declarations_of ws).entities n (subst (λ q. Contains (entity_names q) n) w.declares h) in
    let q = flat_from (λ q. q.entities) (map declared_in ws) t.0 t.1 in
    let v = map_from declared_in ws q.0 q.1 in
    let p = map_from (entity_declaration v.0.namespace) v.0.entities t.0 (subst (λ (q : Declarations). Contains q.entities t.0) (sym v.2) q.2) in
    let there = subst (λ ns. Contains ns (whole v.0)) (sym (wholes_are ws (all_forms fs) w.qualifies)) (map_has whole ws v.0 v.1) in
    let e = entity_qualified v.0.namespace p.0 in
    subst (λ m. is_well_formed m ≡ true) (ap entity_name p.2 ∙ t.2) (form_named fs v.0 there e (map_has (entity_qualified v.0.namespace) v.0.entities p.0 p.1))
