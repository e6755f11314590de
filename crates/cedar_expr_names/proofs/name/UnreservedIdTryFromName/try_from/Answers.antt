-- The base of a name that is not reserved is not reserved.
use Rattle.std.proofs.Common.{rules, ◌≡◌, ap, ◌∙◌}
use Rattle.std.specs.Str.{bytes_eq}
use Rattle.cedar_expr_model.specs.Name.{reserved}
use Rattle.cedar_expr_names.specs.Views.{id_text, name_of}
use Rattle.cedar_expr_names.proofs.Reserving.{base_is_not}
use Rattle.cedar_expr_names.proofs.name.UnreservedIdTryFromName.try_from.Goals as goal

pub new_unchecked-requires : goal.new_unchecked-requires
new_unchecked-requires c =
    let name = c.args.value.internal in
    let same : id_text c.in_ok-id.id ≡ (name_of name).base = search rules in
    ap (bytes_eq reserved) same ∙ base_is_not (name_of name) c.args.value.unreserved
