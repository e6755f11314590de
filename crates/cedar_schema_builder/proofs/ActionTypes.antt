-- An entity type under the last name of the types of actions is found exactly where that fault is there.
use Rattle.std.proofs.Common.{◌≡◌, Bool, true, false, cond, List, map, Some, None, refl, sym, ap, ◌∙◌, subst}
use Rattle.std.proofs.lemmas.Bool.{true≢false}
use Rattle.std.proofs.lemmas.Slice.Eq.{bytes_eq-Decides}
use Rattle.std.specs.Prelude.{find, is_some}
use Rattle.std.specs.Bool.{Decides}
use Rattle.std.specs.List.{flat_map, list_any}
use Rattle.std.specs.Str.{bytes_eq}
use Rattle.cedar_expr_model.specs.Name.{Text, Name}
use Rattle.cedar_expr_leaves.specs.declared.conditional_name.ConditionalName.{ConditionalName}
use Rattle.cedar_schema_model.proofs.Decls.Faults.{schema_fault-Decides}
use Rattle.cedar_schema_model.specs.BagLaws.{HasSchemaFault}
use Rattle.cedar_schema_model.specs.Declarations.{Declarations, EntityDeclaration}
use Rattle.cedar_schema_model.specs.Reference.{action_word}
use Rattle.cedar_schema_model.specs.WellFormed.{action_as_entity_type}
use Rattle.cedar_schema_decl.specs.Conditional.{Conditional}
use Rattle.cedar_schema_decl.specs.Forms.{EntityForm}
use Rattle.cedar_schema_fragments.proofs.Anys.{any_alike, any_map, any_map2, any_flat_map}
use Rattle.cedar_schema_fragments.proofs.Wholes.{whole, wholes_are}
use Rattle.cedar_schema_fragments.specs.Qualified.{entity_qualified}
use Rattle.cedar_schema_fragments.specs.Written.{WrittenNamespace}
use Rattle.cedar_schema_fragments.specs.WrittenDeclarations.{entity_declaration, declared_in, declarations_of, all_forms, AreWritten}
use Rattle.cedar_schema_fragments.specs.declared.namespace_def.ValidatorSchemaFragment.{ValidatorSchemaFragment}
use Rattle.cedar_schema_builder.proofs.Finding.{some_found}
use Rattle.cedar_schema_builder.specs.Checked.{is_action_word}
use Rattle.cedar_schema_builder.specs.WrittenNames.{entities_of, entities_named}

all_named : (ws : List WrittenNamespace) → list_any is_action_word (flat_map entities_of (map whole ws)) ≡ list_any (λ t. bytes_eq action_word t.word) (declarations_of ws).entities
all_named ws =
    any_flat_map is_action_word entities_of whole ws
    ∙ any_alike (λ w. list_any is_action_word (entities_of (whole w))) (λ w. list_any (λ t. bytes_eq action_word t.word) (declared_in w).entities) (λ w. any_map2 is_action_word (λ (t : Name × EntityForm Conditional). t.0) (entity_qualified w.namespace) w.entities ∙ sym (any_map (λ (t : EntityDeclaration). bytes_eq action_word t.word) (entity_declaration w.namespace) w.entities)) ws
    ∙ sym (any_flat_map (λ t. bytes_eq action_word t.word) (λ d. d.entities) declared_in ws)

pub action_types_found : (fs : List (ValidatorSchemaFragment ConditionalName ConditionalName)) (d : Declarations) → AreWritten fs d → (x : List Name) → Decides (is_some (find is_action_word (entities_named fs))) (HasSchemaFault x d action_as_entity_type)
action_types_found fs d w x =
    subst (λ b. Decides b (HasSchemaFault x d action_as_entity_type))
    (sym (some_found is_action_word (entities_named fs)
    ∙ ap (λ ns. list_any is_action_word (flat_map entities_of ns)) (wholes_are w.namespaces (all_forms fs) w.qualifies)
    ∙ all_named w.namespaces
    ∙ ap (λ e. list_any (λ t. bytes_eq action_word t.word) e.entities) (sym w.declares)))
    (schema_fault-Decides x d action_as_entity_type)

-- a name with another last name
pub other_word : (t : Text) (n : Name) → t ≡ n.base → false ≡ bytes_eq t action_word → None ≡ cond (is_action_word n) (Some n) None
other_word t n e h = go (is_action_word n) refl
  where
    go : (b : Bool) → is_action_word n ≡ b → None ≡ cond b (Some n) None
    go true k = absurd (true≢false (sym ((bytes_eq-Decides t action_word).1 (e ∙ sym ((bytes_eq-Decides action_word n.base).0 k))) ∙ sym h))
    go false k = refl
