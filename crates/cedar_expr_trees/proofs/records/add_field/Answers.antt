use Rattle.std.proofs.Common.{sym, ◌∙◌}
use Rattle.cedar_expr_trees.proofs.Repeated.{found_is}
use Rattle.cedar_expr_trees.proofs.records.add_field.Goals as goal

pub returns-then-contains_key-clause-refused : goal.returns-then-contains_key-clause-refused
returns-then-contains_key-clause-refused g c = (sym (found_is c.args.name c.args.fields.now.entries) ∙ sym c.contains_key.ensures ∙ c.if-contains_key.true, c.new.ensures.key, c.new.ensures.context)

pub returns-clause-absent : goal.returns-clause-absent
returns-clause-absent g c = sym (found_is c.args.name c.args.fields.now.entries) ∙ sym c.contains_key.ensures ∙ c.if-contains_key.false
