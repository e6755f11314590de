use Rattle.std.proofs.Common.{◌≡◌, List, sym, subst, ◌∙◌}
use Rattle.cedar_expr_leaves.specs.declared.conditional_name.ConditionalName.{ConditionalName}
use Rattle.cedar_schema_resolver.specs.Meanings.{extensions_seen}
use Rattle.cedar_schema_model.specs.Resolved.{schema_of}
use Rattle.cedar_schema_fragments.specs.declared.namespace_def.ValidatorSchemaFragment.{ValidatorSchemaFragment}
use Rattle.cedar_schema_builder.specs.Built.{types_made, actions_made, NamesFaultOf}
use Rattle.cedar_schema_builder.specs.Extensions.{types_given}
use Rattle.cedar_schema_builder.specs.OfFragments.{schema_formed, IsFaultInFragments}
use Rattle.cedar_schema_builder.specs.declared.err.SchemaError.TheVariants.{OutOfMemory}
use Rattle.cedar_schema_decl.proofs.Gathered.{handed}
use Rattle.cedar_schema_built.specs.BuiltOf.{IsBuiltOf, IsBuiltOfFormed}
use Rattle.cedar_schema_built.specs.Listed.{AreListed, HasNamesOf, names_listed}
use Rattle.cedar_schema_built.proofs.schema.ValidatorSchema.from_schema_fragments.Goals as goal

pub returns-in_ok-schema-in-Ok-clause-built : goal.returns-in_ok-schema-in-Ok-clause-built
returns-in_ok-schema-in-Ok-clause-built g c =
    let x = types_given c.args.extensions.now in
    let fs = c.args.fragments.items in
    let p = c.in-Ok.parts in
    let b = c.extension_types_are_a_set.ensures.built x (extensions_seen c.in_ok-types.types) c.in_ok-types.ensures fs (types_made p) (actions_made p) c.in-Ok.ensures.built in
    subst (IsBuiltOf x fs) (sym (c.with_names.ensures.kept ∙ c.in_ok-schema-in-Ok.ensures.kept)) (record {
      are_well_formed = b.are_well_formed;
      keeps = λ d w. c.new_keeps_the_schema.ensures (schema_of d) p.entity_types.items p.actions.items (b.types d w) (b.actions d w);
    })

pub returns-in_ok-schema-in-Ok-clause-declared : goal.returns-in_ok-schema-in-Ok-clause-declared
returns-in_ok-schema-in-Ok-clause-declared g c =
    let l = names_listed c.in_ok-names.names in
    let e : c.deref.result.now ≡ c.args.fragments.items = cc in
    let is : AreListed c.args.fragments.items l = subst (λ (fs : List (ValidatorSchemaFragment ConditionalName ConditionalName)). AreListed fs l) e c.in_ok-names.ensures in
    λ d w. subst (HasNamesOf d) (sym c.with_names.ensures.listed) (c.listed_are_declared.ensures c.args.fragments.items d w l is)

pub returns-in_err-names-clause-named : goal.returns-in_err-names-clause-named
returns-in_err-names-clause-named g c =
    handed (NamesFaultOf (types_given c.args.extensions.now) c.args.fragments.items) OutOfMemory c.from_residual.result c.from_residual.ensures.1 (record { each = λ d w. tt })

pub returns-in_err-types-clause-named : goal.returns-in_err-types-clause-named
returns-in_err-types-clause-named g c =
    handed (NamesFaultOf (types_given c.args.extensions.now) c.args.fragments.items) OutOfMemory c.from_residual-in_err-types.result c.from_residual-in_err-types.ensures.1 (record { each = λ d w. tt })

pub returns-in_err-schema-in-Ok-clause-named : goal.returns-in_err-schema-in-Ok-clause-named
returns-in_err-schema-in-Ok-clause-named g c =
    handed (NamesFaultOf (types_given c.args.extensions.now) c.args.fragments.items) OutOfMemory c.from_residual-in_err-schema-in-Ok.result c.from_residual-in_err-schema-in-Ok.ensures.1 (record { each = λ d w. tt })

pub returns-in-Err-clause-named : goal.returns-in-Err-clause-named
returns-in-Err-clause-named g c =
    c.extension_types_are_a_set.ensures.names (types_given c.args.extensions.now) (extensions_seen c.in_ok-types.types) c.in_ok-types.ensures c.args.fragments.items c.in-Err.error c.in-Err.ensures.named

pub returns-in_ok-schema-in-Ok-clause-formed : goal.returns-in_ok-schema-in-Ok-clause-formed
returns-in_ok-schema-in-Ok-clause-formed g c =
    let x = types_given c.args.extensions.now in
    let fs = c.args.fragments.items in
    let p = c.in-Ok.parts in
    let b = c.extension_types_are_a_set.ensures.formed x (extensions_seen c.in_ok-types.types) c.in_ok-types.ensures fs (types_made p) (actions_made p) c.in-Ok.ensures.formed in
    subst (IsBuiltOfFormed x fs) (sym (c.with_names.ensures.kept ∙ c.in_ok-schema-in-Ok.ensures.kept)) (record {
      formed = b.formed;
      keeps = c.new_keeps_the_schema.ensures (schema_formed x fs b.formed) p.entity_types.items p.actions.items b.types b.actions;
    })

pub returns-in_err-names-clause-at_fault : goal.returns-in_err-names-clause-at_fault
returns-in_err-names-clause-at_fault g c =
    handed (IsFaultInFragments (types_given c.args.extensions.now) c.args.fragments.items) OutOfMemory c.from_residual.result c.from_residual.ensures.1 tt

pub returns-in_err-types-clause-at_fault : goal.returns-in_err-types-clause-at_fault
returns-in_err-types-clause-at_fault g c =
    handed (IsFaultInFragments (types_given c.args.extensions.now) c.args.fragments.items) OutOfMemory c.from_residual-in_err-types.result c.from_residual-in_err-types.ensures.1 tt

pub returns-in_err-schema-in-Ok-clause-at_fault : goal.returns-in_err-schema-in-Ok-clause-at_fault
returns-in_err-schema-in-Ok-clause-at_fault g c =
    handed (IsFaultInFragments (types_given c.args.extensions.now) c.args.fragments.items) OutOfMemory c.from_residual-in_err-schema-in-Ok.result c.from_residual-in_err-schema-in-Ok.ensures.1 tt

pub returns-in-Err-clause-at_fault : goal.returns-in-Err-clause-at_fault
returns-in-Err-clause-at_fault g c =
    c.extension_types_are_a_set.ensures.at_fault (types_given c.args.extensions.now) (extensions_seen c.in_ok-types.types) c.in_ok-types.ensures c.args.fragments.items c.in-Err.error c.in-Err.ensures.at_fault
