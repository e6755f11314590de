-- External declarations, as they are written and as they are declared.
use Rattle.std.proofs.Common.{◌≡◌, Bool, true, false, ◌||◌, List, [], ◌∷◌, ◌++◌, map, Option, option_map, refl, sym, ap, ◌∙◌}
use Rattle.std.specs.declared.alloc.Global.{Global}
use Rattle.std.specs.declared.rc.RcStr.{RcStr}
use Rattle.std.specs.List.{list_any, flat_map}
use Rattle.std.proofs.lemmas.List.{map-append}
use Rattle.std.proofs.lemmas.List.Folds.{list_any-append}
use Rattle.cedar_expr_leaves.specs.declared.raw_name.RawName.{RawName}
use Rattle.cedar_expr_model.specs.Name.{Name}
use Rattle.cedar_expr_names.specs.Views.{name_of}
use Rattle.cedar_expr_names.specs.declared.id.Id.{Id}
use Rattle.cedar_expr_names.specs.declared.internal_name.InternalName.{InternalName}
use Rattle.cedar_gate_fragments.specs.Written.{declared_by}
use Rattle.cedar_schema_decl.specs.declared.json_schema.ActionType.{ActionType}
use Rattle.cedar_schema_decl.specs.declared.json_schema.EntityType.{EntityType}
use Rattle.cedar_schema_decl.specs.declared.json_schema.Fragment.{Fragment}
use Rattle.cedar_schema_decl.specs.declared.json_schema.NamespaceDefinition.{NamespaceDefinition}
use Rattle.cedar_schema_fragments.specs.Written.{WrittenNamespace, written_namespace, written_fragment, entities_written, actions_written}
use Rattle.cedar_schema_fragments.specs.WrittenDeclarations.{declared_in, entity_declaration, action_declaration}
use Rattle.cedar_schema_model.specs.Declarations.{Declarations, EntityDeclaration, ActionDeclaration}
use Rattle.cedar_schema_model.specs.WellFormed.{is_external_kind, has_schema_fault, unresolved_external}
use Rattle.cedarcheck.specs.External.{is_external_type, is_external_action, has_external, has_external_in}

or_swap : (e a f g : Bool) → ((e || a) || (f || g)) ≡ ((e || f) || (a || g))
or_swap true a f g = refl
or_swap false true true g = refl
or_swap false true false g = refl
or_swap false false true g = refl
or_swap false false false g = refl

-- something that is declared is external
abbrev is_external_entity : EntityDeclaration → Bool
is_external_entity t = is_external_kind t.kind

abbrev is_elsewhere : ActionDeclaration → Bool
is_elsewhere a = a.is_external

abbrev declares_external : Declarations → Bool
declares_external d = list_any is_external_entity d.entities || list_any is_elsewhere d.actions

any_of : (ds : List Declarations) → list_any declares_external ds ≡ (list_any is_external_entity (flat_map (λ d. d.entities) ds) || list_any is_elsewhere (flat_map (λ d. d.actions) ds))
any_of [] = refl
any_of (d ∷ ds) =
    ap (λ b. declares_external d || b) (any_of ds)
    ∙ or_swap (list_any is_external_entity d.entities) (list_any is_elsewhere d.actions) (list_any is_external_entity (flat_map (λ d. d.entities) ds)) (list_any is_elsewhere (flat_map (λ d. d.actions) ds))
    ∙ (λ i. sym (list_any-append is_external_entity d.entities (flat_map (λ d. d.entities) ds)) i || sym (list_any-append is_elsewhere d.actions (flat_map (λ d. d.actions) ds)) i)

-- what a namespace writes
types_in : (space : Option Name) (es : List (Id × EntityType RawName)) → list_any is_external_type (map (λ e. e.1) es) ≡ list_any is_external_entity (map (entity_declaration space) (entities_written es))
types_in space [] = refl
types_in space (e ∷ es) = ap (λ b. is_external_type e.1 || b) (types_in space es)

actions_in : (space : Option Name) (es : List (RcStr Global × ActionType RawName)) → list_any is_external_action (map (λ e. e.1) es) ≡ list_any is_elsewhere (map (action_declaration space) (actions_written es))
actions_in space [] = refl
actions_in space (e ∷ es) = ap (λ b. is_external_action e.1 || b) (actions_in space es)

in_space : (space : Option InternalName) (n : NamespaceDefinition RawName) → has_external n ≡ declares_external (declared_in (written_namespace space n))
in_space space n = λ i. types_in (option_map name_of space) n.entity_types.entries i || actions_in (option_map name_of space) n.actions.entries i

-- what fragments write
in_spaces : (es : List (Option InternalName × NamespaceDefinition RawName)) → list_any has_external (map (λ e. e.1) es) ≡ list_any declares_external (map declared_in (map (λ e. written_namespace e.0 e.1) es))
in_spaces [] = refl
in_spaces (e ∷ es) = λ i. in_space e.0 e.1 i || in_spaces es i

in_fragments : (fs : List (Fragment RawName)) → list_any has_external_in fs ≡ list_any declares_external (map declared_in (flat_map written_fragment fs))
in_fragments [] = refl
in_fragments (f ∷ fs) =
    (λ i. in_spaces f.0.entries i || in_fragments fs i)
    ∙ sym (list_any-append declares_external (map declared_in (written_fragment f)) (map declared_in (flat_map written_fragment fs)))
    ∙ ap (list_any declares_external) (sym (map-append declared_in (written_fragment f) (flat_map written_fragment fs)))

-- one declaration is external where one is written so
pub external_in_all : (fs : List (Fragment RawName)) (x : List Name) → list_any has_external_in fs ≡ has_schema_fault x (declared_by fs) unresolved_external
external_in_all fs x = in_fragments fs ∙ any_of (map declared_in (flat_map written_fragment fs))
