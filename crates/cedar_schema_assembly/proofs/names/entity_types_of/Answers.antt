use Rattle.std.proofs.Common.{[], ◌∷◌, map, ap, subst, sym, ◌∙◌, ◌++◌}
use Rattle.std.specs.Prelude.{Contains}
use Rattle.std.proofs.lemmas.List.Elements.{Contains-append_right}
use Rattle.cedar_expr_model.proofs.Lists.{contains_head}
use Rattle.cedar_expr_names.specs.Views.{name_of, type_name_of}
use Rattle.cedar_schema_decl.proofs.Gathered.{handed}
use Rattle.cedar_schema_assembly.specs.Refusals.{TellsReserved}
use Rattle.cedar_schema_assembly.proofs.Telling.{reserved_more, just}
use Rattle.cedar_schema_assembly.proofs.names.entity_types_of.Goals as goal

pub returns-in_err-entity_type_of-clause-refused : goal.returns-in_err-entity_type_of-clause-refused
returns-in_err-entity_type_of-clause-refused c =
    let names = map name_of c.args.names.now.keys in
    let name = name_of c.in-Some.name.now in
    let done = map type_name_of c.loop-name.types.items in
    let there : Contains names name =
    subst (λ ns. Contains ns name) (ap (λ ns. done ++ map name_of ns) (sym c.in-Some.ensures.steps) ∙ c.loop-name.invariant)
    (Contains-append_right done (name ∷ map name_of c.next.new.self) name (contains_head name (map name_of c.next.new.self))) in
    handed (TellsReserved names) c.in_err-entity_type_of.field-0.0 c.from_residual-in_err-entity_type_of.result c.from_residual-in_err-entity_type_of.ensures.1
    (reserved_more (name ∷ []) names c.in_err-entity_type_of.field-0.0 (just names name there) c.in_err-entity_type_of.ensures.refused)
