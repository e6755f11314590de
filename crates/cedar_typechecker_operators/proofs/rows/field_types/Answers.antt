use Rattle.std.proofs.Common.{◌≡◌, Some, rules, ap, sym, ◌∙◌}
use Rattle.std.proofs.lemmas.List.{map-append}
use Rattle.cedar_expr_values.proofs.Ascending.{names_ascend}
use Rattle.cedar_schema_types.specs.AttributeLists.{required_pair, required_pairs}
use Rattle.cedar_typechecker_rules.proofs.Gathered.{left_to_give, gives_on}
use Rattle.cedar_typechecker_operators.specs.Rows.{required_at}
use Rattle.cedar_typechecker_operators.proofs.rows.field_types.Goals as goal

pub loop-name-preserved : goal.loop-name-preserved
loop-name-preserved c =
    let done = required_pairs c.loop-name.types.items in
    let made = required_pair (c.in_ok-clone-in-Some-data.field-0, c.in_ok-clone-in-Some-data-2.field-0) in
    let there : Some made ≡ required_at (c.in-Some.name.now, c.in-Some.e.now) = search rules in
    gives_on required_at done _ (c.in-Some.name.now, c.in-Some.e.now) made c.next.new.self _
    (ap (left_to_give required_at done) (sym c.in-Some.ensures.steps) ∙ c.loop-name.invariant)
    there
    (ap required_pairs c.in_ok-push-in-Some-data.ensures.items ∙ map-append required_pair c.loop-name.types.items _)

pub returns-clause-rising : goal.returns-clause-rising
returns-clause-rising c = names_ascend c.args.row.now.entries c.len.ensures.ordered

pub returns-in-None-data-clause-rising : goal.returns-in-None-data-clause-rising
returns-in-None-data-clause-rising c = names_ascend c.args.row.now.entries c.len.ensures.ordered
