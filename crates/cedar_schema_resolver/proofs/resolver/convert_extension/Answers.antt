use Rattle.std.proofs.Common.{Ok, sym, ap, ◌∙◌}
use Rattle.cedar_expr_names.specs.Views.{name_of, plain_name_of}
use Rattle.cedar_schema_resolver.specs.Meanings.{setting_of}
use Rattle.cedar_schema_resolver.proofs.Outcome.{extension_known, extension_unknown}
use Rattle.cedar_schema_resolver.proofs.Stored.{name_among}
use Rattle.cedar_schema_resolver.proofs.resolver.convert_extension.Goals as goal

pub returns-then-contains-clause-made : goal.returns-then-contains-clause-made
returns-then-contains-clause-made c =
    extension_known (setting_of c.args.resolver.now) (name_of c.args.name.now) (plain_name_of c.in_ok-name.name) c.in_ok-name.ensures.made
    (sym (name_among c.in_ok-name.name c.args.resolver.now.extension_types.now.keys) ∙ sym c.contains.ensures ∙ c.if-contains.true)
    ∙ ap Ok (sym c.extension.ensures)

pub returns-else-contains-clause-refused : goal.returns-else-contains-clause-refused
returns-else-contains-clause-refused c =
    extension_unknown (setting_of c.args.resolver.now) (name_of c.args.name.now) (plain_name_of c.in_ok-name.name) c.in_ok-name.ensures.made
    (sym (name_among c.in_ok-name.name c.args.resolver.now.extension_types.now.keys) ∙ sym c.contains.ensures ∙ c.if-contains.false)
