-- What declared actions write, over what is seen of their names.
-- Rule: declarations (docs/RULES.md).
use Rattle.std.specs.Prelude.{Bool, true, false, List, [], map}
use Rattle.std.specs.Rc.{rc_str_bytes}
use Rattle.cedar_expr_model.specs.Name.{Text}
use Rattle.cedar_expr_model.specs.Uid.{Uid}
use Rattle.cedar_expr_names.specs.Views.{uid_of}
use Rattle.cedar_expr_names.specs.declared.entity.EntityUID.{EntityUID}
use Rattle.cedar_schema_decl.specs.Forms.{TypeForm, record_form, no_field_forms, ActionForm}
use Rattle.cedar_schema_decl.specs.Trees.{type_form}
use Rattle.cedar_schema_decl.specs.declared.json_schema.ActionEntityUID.{ActionEntityUID}
use Rattle.cedar_schema_fragments.specs.declared.actions.ActionFragment.{ActionFragment}
use Rattle.cedar_schema_fragments.specs.declared.actions.ActionFragmentKind.{ActionFragmentKind}
use Rattle.cedar_schema_fragments.specs.declared.actions.ActionFragmentKind.TheVariants.{Declared, External}
use Rattle.cedar_schema_fragments.specs.declared.actions.ActionsDef.{ActionsDef}
use Rattle.cedar_schema_fragments.specs.declared.actions.ValidatorApplySpec.{ValidatorApplySpec}

-- an action that is named as a parent: the name of its type, and its id
abbrev pub parent_form : {N X : Type 0} → (N → X) → ActionEntityUID N → X × Text
parent_form f p = (f p.ty, rc_str_bytes p.id)

-- What an action applies to, and its context. One that is declared elsewhere applies to nothing, with the empty record as its context.
abbrev pub principals_form : {N A X : Type 0} → (A → X) → ActionFragmentKind N A → List X
principals_form g (Declared s t) = map g s.principal_apply_spec.items
principals_form g External = []

abbrev pub resources_form : {N A X : Type 0} → (A → X) → ActionFragmentKind N A → List X
resources_form g (Declared s t) = map g s.resource_apply_spec.items
resources_form g External = []

-- both, and those of what an action applies to by itself
abbrev pub applies_form : {N A X : Type 0} → (A → X) → ActionFragmentKind N A → List X × List X
applies_form g k = (principals_form g k, resources_form g k)

abbrev pub applied_form : {A X : Type 0} → (A → X) → ValidatorApplySpec A → List X × List X
applied_form g s = (map g s.principal_apply_spec.items, map g s.resource_apply_spec.items)

abbrev pub context_form : {N A X : Type 0} → (N → X) → ActionFragmentKind N A → TypeForm X
context_form f (Declared s t) = type_form f t
context_form f External = record_form no_field_forms

-- it is declared elsewhere
abbrev pub is_elsewhere : {N A : Type 0} → ActionFragmentKind N A → Bool
is_elsewhere (Declared s t) = false
is_elsewhere External = true

-- an action, one that stands under its uid, and those that do
abbrev pub action_form : {N A X : Type 0} → (N → X) → (A → X) → ActionFragment N A → ActionForm X (X × Text)
action_form f g a = record {
  parents = map (parent_form f) a.parents.items;
  principals = principals_form g a.kind;
  resources = resources_form g a.kind;
  context = context_form f a.kind;
  is_external = is_elsewhere a.kind;
}

abbrev pub under_uid : {N A X : Type 0} → (N → X) → (A → X) → EntityUID × ActionFragment N A → Uid × ActionForm X (X × Text)
under_uid f g e = (uid_of e.0, action_form f g e.1)

abbrev pub actions_form : {N A X : Type 0} → (N → X) → (A → X) → ActionsDef N A → List (Uid × ActionForm X (X × Text))
actions_form f g d = map (under_uid f g) d.actions.items
