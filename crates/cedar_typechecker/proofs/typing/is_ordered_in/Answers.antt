use Rattle.std.proofs.Common.{ap, ◌∙◌}
use Rattle.std.specs.Borrow.{Bor}
use Rattle.std.specs.List.{list_any}
use Rattle.std.specs.Slice.Iter.{iter_rest}
use Rattle.cedar_expr_model.specs.Name.{name_eq}
use Rattle.cedar_expr_names.specs.Views.{plain_name_of}
use Rattle.cedar_expr_names.specs.declared.name.Name.{Name as CodeName}
use Rattle.cedar_typechecker.proofs.Given.{named_among}
use Rattle.cedar_typechecker.proofs.typing.is_ordered_in.Goals as goal

pub returns : goal.returns
returns g c = c.is_among.ensures ∙ named_among (λ (n : Bor CodeName). plain_name_of n.now) (plain_name_of c.args.name.now) (iter_rest c.types_with_operator_overloading.result) ∙ ap (list_any (name_eq (plain_name_of c.args.name.now))) c.types_with_operator_overloading.ensures
