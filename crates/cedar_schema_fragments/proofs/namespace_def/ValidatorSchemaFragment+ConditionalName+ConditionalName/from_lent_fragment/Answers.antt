use Rattle.std.proofs.Common.{◌≡◌, [], ◌∷◌, map, rules, ap, ◌∙◌}
use Rattle.std.specs.Prelude.{List, Option}
use Rattle.std.proofs.lemmas.List.{map-append}
use Rattle.cedar_expr_names.specs.declared.internal_name.InternalName.{InternalName}
use Rattle.cedar_expr_leaves.specs.declared.raw_name.RawName.{RawName}
use Rattle.cedar_schema_decl.specs.Conditional.{conditional_of}
use Rattle.cedar_schema_decl.specs.Requalified.{each}
use Rattle.cedar_schema_decl.specs.declared.json_schema.NamespaceDefinition.{NamespaceDefinition}
use Rattle.cedar_schema_decl.proofs.Gathered.{handed, gathers_none, gathers_one, gathers_all, gathers_not}
use Rattle.cedar_schema_fragments.specs.Namespaces.{namespace_form}
use Rattle.cedar_schema_fragments.specs.Qualified.{namespace_qualified}
use Rattle.cedar_schema_fragments.specs.Refusals.{Refuses}
use Rattle.cedar_schema_fragments.specs.Written.{WrittenNamespace, written_namespace, written_fragment}
use Rattle.cedar_schema_fragments.proofs.namespace_def.ValidatorSchemaFragment+ConditionalName+ConditionalName.from_lent_fragment.Goals as goal

abbrev spaces : List (Option InternalName × NamespaceDefinition RawName) → List WrittenNamespace
spaces es = map (λ e. written_namespace e.0 e.1) es

pub loop-space-init : goal.loop-space-init
loop-space-init c =
    let all : c.args.fragment.now.0.entries ≡ c.into_iter-space-iterator.result = search rules in
    gathers_none namespace_qualified (written_fragment c.args.fragment.now) (spaces c.into_iter-space-iterator.result) (map (namespace_form conditional_of conditional_of) c.in_ok-namespaces.namespaces.items)
    (ap spaces all) (ap (map (namespace_form conditional_of conditional_of)) c.in_ok-namespaces.ensures.items)

pub loop-space-preserved : goal.loop-space-preserved
loop-space-preserved c =
    gathers_one namespace_qualified (written_fragment c.args.fragment.now) (spaces c.loop-space.space-iterator) (spaces c.next.new.self)
    (map (namespace_form conditional_of conditional_of) c.loop-space.namespaces.items) (map (namespace_form conditional_of conditional_of) c.push.new.self.items)
    (written_namespace c.in-Some.space.now c.in-Some.definition.now) (namespace_form conditional_of conditional_of c.in_ok-namespace.namespace)
    c.loop-space.invariant
    (ap spaces c.in-Some.ensures.steps)
    c.in_ok-namespace.ensures.made
    (ap (map (namespace_form conditional_of conditional_of)) c.in_ok-push.ensures.items ∙ map-append (namespace_form conditional_of conditional_of) c.loop-space.namespaces.items (c.in_ok-namespace.namespace ∷ []))

pub returns-clause-made : goal.returns-clause-made
returns-clause-made c =
    let none : c.loop-space.space-iterator ≡ [] = search rules in
    gathers_all namespace_qualified (written_fragment c.args.fragment.now) (spaces c.loop-space.space-iterator) (map (namespace_form conditional_of conditional_of) c.loop-space.namespaces.items) c.loop-space.invariant (ap spaces none)

pub returns-in_err-namespace-clause-refused : goal.returns-in_err-namespace-clause-refused
returns-in_err-namespace-clause-refused c =
    handed (Refuses (each namespace_qualified (written_fragment c.args.fragment.now))) c.in_err-namespace.field-0.0 c.from_residual-in_err-namespace.result c.from_residual-in_err-namespace.ensures.1
    (λ q u. gathers_not namespace_qualified (written_fragment c.args.fragment.now) (spaces c.loop-space.space-iterator) (spaces c.next.new.self)
    (map (namespace_form conditional_of conditional_of) c.loop-space.namespaces.items) (written_namespace c.in-Some.space.now c.in-Some.definition.now) q
    c.loop-space.invariant
    (ap spaces c.in-Some.ensures.steps)
    (c.in_err-namespace.ensures.refused q u))
