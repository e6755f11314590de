use Rattle.std.proofs.Common.{◌≡◌, true, rules}
use Rattle.cedar_expr_model.specs.Name.{is_identifier}
use Rattle.cedar_expr_names.specs.Parts.{name_of}
use Rattle.cedar_expr_names.proofs.PartByPart.{alone}
use Rattle.cedar_expr_names.proofs.internal_name.InternalName.of_identifier.Goals as goal

pub returns-clause-read : goal.returns-clause-read
returns-clause-read c =
    let name = name_of c.in_ok-name.name in
    let identifies : is_identifier c.args.text.now ≡ true = search rules in
    let base : name.base ≡ c.args.text.now = search rules in
    alone c.args.text.now name identifies c.in_ok-name.ensures.path base
