use Rattle.std.proofs.Common.{[], ◌∷◌, option_map}
use Rattle.std.specs.Option.{option_to_list}
use Rattle.cedar_expr_names.specs.Views.{name_of}
use Rattle.cedar_schema_decl.specs.Forms.{record_form}
use Rattle.cedar_schema_decl.specs.Trees.{type_form, record_fields}
use Rattle.cedar_schema_resolver.specs.Meanings.{setting_of}
use Rattle.cedar_schema_assembly.proofs.Telling.{among_more, first_and, behind}
use Rattle.cedar_schema_assembly.proofs.type_entries.standard_type.Goals as goal

pub returns-in-Err-clause-refused : goal.returns-in-Err-clause-refused
returns-in-Err-clause-refused c =
    let fields = record_form (record_fields name_of c.args.attributes.now) in
    let tags = option_to_list (option_map (type_form name_of) c.args.tags.now) in
    among_more (setting_of c.args.resolver.now) (fields ∷ []) (fields ∷ tags) c.in-Err.error (first_and fields tags) c.in-Err.ensures.refused

pub returns-in-Err-told_tags-clause-refused : goal.returns-in-Err-told_tags-clause-refused
returns-in-Err-told_tags-clause-refused c =
    let fields = record_form (record_fields name_of c.args.attributes.now) in
    let tags = option_to_list (option_map (type_form name_of) c.args.tags.now) in
    among_more (setting_of c.args.resolver.now) tags (fields ∷ tags) c.in-Err-told_tags.error (behind fields tags) c.in-Err-told_tags.ensures.refused
