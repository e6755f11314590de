-- The reserved identifier is refused by the name of it alone.
use Rattle.std.proofs.Common.{◌≡◌, [], sym, ◌∙◌, rules}
use Rattle.std.proofs.lemmas.Slice.Eq.{bytes_eq-Decides}
use Rattle.cedar_expr_model.specs.Name.{Name, reserved}
use Rattle.cedar_expr_model.specs.Names.{cedar_name}
use Rattle.cedar_expr_names.specs.Ids.{id_text}
use Rattle.cedar_expr_names.specs.Parts.{name_of}
use Rattle.cedar_expr_names.proofs.unreserved_id.UnreservedId.try_from_id.Goals as goal

is_cedar : (n : Name) → n.path ≡ [] → n.base ≡ reserved → n ≡ cedar_name
is_cedar n e f = λ i. record { path = e i; base = f i }

pub returns-then-is_reserved-clause-refused : goal.returns-then-is_reserved-clause-refused
returns-then-is_reserved-clause-refused c =
    let same : reserved ≡ id_text c.args.id = (bytes_eq-Decides reserved (id_text c.args.id)).0 (search rules) in
    let path : (name_of c.in_ok-name.name).path ≡ [] = search rules in
    let base : (name_of c.in_ok-name.name).base ≡ id_text c.args.id = search rules in
    (sym same, c.new.ensures ∙ is_cedar (name_of c.in_ok-name.name) path (base ∙ sym same))
