use Rattle.std.proofs.lemmas.Grind.{common_steps}
use Rattle.std.proofs.Common.{sym, ◌∙◌, subst, take, arith}
use Rattle.std.proofs.lemmas.List.Elements.{Contains-get_or}
use Rattle.std.proofs.lemmas.List.{take_more}
use Rattle.cedar_schema_resolver.specs.Rows.{HasAdded}
use Rattle.cedar_schema_resolver.proofs.Turning.{then_added}
use Rattle.cedar_schema_resolver.proofs.turn.add_to_rows.Goals as goal

pub add_to_row-requires : goal.add_to_row-requires
add_to_row-requires c =
    let l = c.requires.each _ (Contains-get_or c.args.at.now c.loop-target.target-index 0 c.loop-target-test.true) in
    omega (arith, l, c.loop-target.invariant.size)

pub loop-target-preserved : goal.loop-target-preserved
loop-target-preserved c = record {
  size = c.in_ok-add_to_row.ensures.size ∙ c.loop-target.invariant.size;
  added = subst (λ is. HasAdded c.args.rows.now.items c.add_to_row.new.rows.items is c.args.node) (sym (take_more c.args.at.now c.loop-target.target-index 0 c.loop-target-test.true)) (then_added c.args.rows.now.items c.loop-target.rows.items c.add_to_row.new.rows.items (take c.loop-target.target-index c.args.at.now) _ c.args.node c.loop-target.invariant.added c.in_ok-add_to_row.ensures.added);
}

pub returns-clause-added : goal.returns-clause-added
returns-clause-added c = grind (arith, common_steps)
