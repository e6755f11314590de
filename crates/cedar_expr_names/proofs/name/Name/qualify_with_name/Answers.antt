-- A name in a namespace is not reserved, as neither of them is.
use Rattle.std.proofs.Common.{◌≡◌, false, Option, Some, None, Bor, ap, ◌∙◌, rules}
use Rattle.cedar_expr_model.specs.Name.{is_reserved}
use Rattle.cedar_expr_model.specs.Names.{qualified}
use Rattle.cedar_expr_names.specs.declared.name.Name.{Name}
use Rattle.cedar_expr_names.specs.Views.{name_of, plain_name_of}
use Rattle.cedar_expr_names.specs.Namespaces.{plain_space_of}
use Rattle.cedar_expr_names.proofs.Reserving.{qualified_is_not}
use Rattle.cedar_expr_names.proofs.name.Name.qualify_with_name.Goals as goal

stays_unreserved : (space : Option (Bor Name)) (n : Name) → is_reserved (qualified (plain_space_of space) (plain_name_of n)) ≡ false
stays_unreserved None n = n.unreserved
stays_unreserved (Some space) n = qualified_is_not (plain_name_of space.now) (plain_name_of n) space.now.unreserved n.unreserved

pub invariant_of-result : goal.invariant_of-result
invariant_of-result c =
    let same : name_of c.in_ok-internal.internal ≡ qualified (plain_space_of c.args.namespace) (plain_name_of c.args.self.now) = search rules in
    record { unreserved = ap is_reserved same ∙ stays_unreserved c.args.namespace c.args.self.now }
