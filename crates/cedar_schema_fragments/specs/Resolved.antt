-- What stands in the place of declarations once their names are resolved.
-- Rule: references (docs/RULES.md).
use Rattle.std.specs.Prelude.{List, Option, find, if◌then◌else◌}
use Rattle.std.specs.Option.{option_map_or}
use Rattle.std.specs.declared.result.Result.{Result}
use Rattle.std.specs.declared.result.Result.TheVariants.{Ok, Err}
use Rattle.cedar_expr_model.specs.Name.{Text, Name, is_reserved}
use Rattle.cedar_expr_model.specs.Uid.{Uid}
use Rattle.cedar_expr_leaves.specs.declared.conditional_name.ConditionalName.{ConditionalName}
use Rattle.cedar_schema_decl.specs.Conditional.{Conditional, conditional_of}
use Rattle.cedar_schema_decl.specs.Defined.{Defined, is_defined_action, resolved, resolving}
use Rattle.cedar_schema_decl.specs.Forms.{TypeForm, EntityForm, ActionForm}
use Rattle.cedar_schema_decl.specs.Requalified.{and_then, requalified, requalified_entity, under_name, each}
use Rattle.cedar_schema_fragments.specs.Actions.{applies_form, context_form}
use Rattle.cedar_schema_fragments.specs.Namespaces.{NamespaceForm}
use Rattle.cedar_schema_fragments.specs.Refusals.{Refusal, no_type, no_action, reserved_type}
use Rattle.cedar_schema_fragments.specs.declared.actions.ActionFragmentKind.{ActionFragmentKind}

-- a refusal of a name of a type
abbrev pub of_types : {B : Type 0} → Result B Conditional → Result B Refusal
of_types (Ok b) = Ok b
of_types (Err c) = Err (no_type c)

-- of a name that an action applies to: a reserved name is no entity type
abbrev pub unreserved : Name → Result Name Refusal
unreserved n = if is_reserved n then Err (reserved_type n) else Ok n

abbrev pub entity_resolved : Defined → Conditional → Result Name Refusal
entity_resolved s c = and_then unreserved (of_types (resolved s c))

-- of the types of principals and of resources
abbrev pub applied_resolved : Defined → List Conditional × List Conditional → Result (List Name × List Name) Refusal
applied_resolved s a = and_then (λ ps. and_then (λ rs. Ok (ps, rs)) (each (entity_resolved s) a.1)) (each (entity_resolved s) a.0)

-- What a parent means: the first of the uids that it may stand for that is a declared action.
abbrev pub parent_meant_by : Defined → Conditional × Text → Option Name
parent_meant_by s p = find (λ n. is_defined_action s (record { kind = n; id = p.1 })) p.0.names

-- of a parent; one that means nothing is refused
abbrev pub parent_resolved : Defined → Conditional × Text → Result (Name × Text) Refusal
parent_resolved s p = option_map_or (λ n. Ok (n, p.1)) (parent_meant_by s p) (Err (no_action p))

-- of a context
abbrev pub context_resolved : Defined → TypeForm Conditional → Result (TypeForm Name) Refusal
context_resolved s t = of_types (requalified (resolving s) t)

-- of what an action applies to, and then of its context
abbrev pub kind_resolved : Defined → ActionFragmentKind ConditionalName ConditionalName → Result (TypeForm Name) Refusal
kind_resolved s k = and_then (λ a. context_resolved s (context_form conditional_of k)) (applied_resolved s (applies_form conditional_of k))

-- of an action: first what it applies to, then its context, and then its parents
abbrev pub action_resolved : Defined → ActionForm Conditional (Conditional × Text) → Result (ActionForm Name (Name × Text)) Refusal
action_resolved s a =
    and_then (λ applied. and_then (λ t. and_then (λ us. Ok (record { parents = us; principals = applied.0; resources = applied.1; context = t; is_external = a.is_external }))
    (each (parent_resolved s) a.parents))
    (context_resolved s a.context))
    (applied_resolved s (a.principals, a.resources))

-- of what stands under a uid
abbrev pub with_uid : {A B R : Type 0} → (A → Result B R) → Uid × A → Result (Uid × B) R
with_uid f p = and_then (λ y. Ok (p.0, y)) (f p.1)

-- of actions under their uids
abbrev pub actions_resolved : Defined → List (Uid × ActionForm Conditional (Conditional × Text)) → Result (List (Uid × ActionForm Name (Name × Text))) Refusal
actions_resolved s us = each (with_uid (action_resolved s)) us

-- of the common types, and of the entity types
abbrev pub commons_resolved : Defined → List (Name × TypeForm Conditional) → Result (List (Name × TypeForm Name)) Conditional
commons_resolved s cs = each (under_name (requalified (resolving s))) cs

abbrev pub entities_resolved : Defined → List (Name × EntityForm Conditional) → Result (List (Name × EntityForm Name)) Conditional
entities_resolved s es = each (under_name (requalified_entity (resolving s))) es

-- of a namespace: first its common types, then its entity types, and then its actions
abbrev pub namespace_resolved : Defined → NamespaceForm Conditional (Conditional × Text) → Result (NamespaceForm Name (Name × Text)) Refusal
namespace_resolved s n =
    and_then (λ cs. and_then (λ es. and_then (λ us. Ok (record { namespace = n.namespace; commons = cs; entities = es; actions = us }))
    (each (with_uid (action_resolved s)) n.actions))
    (of_types (entities_resolved s n.entities)))
    (of_types (commons_resolved s n.commons))

-- of the namespaces of a fragment
abbrev pub fragment_resolved : Defined → List (NamespaceForm Conditional (Conditional × Text)) → Result (List (NamespaceForm Name (Name × Text))) Refusal
fragment_resolved s ns = each (namespace_resolved s) ns
