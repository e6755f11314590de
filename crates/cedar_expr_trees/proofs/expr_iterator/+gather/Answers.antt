use Rattle.std.proofs.lemmas.Grind.{common_steps}
use Rattle.std.proofs.Common.{◌≡◌, ap, sym, ⊎_elim, ◌∙◌, rules, arith}
use Rattle.std.specs.BTreeMap.{values}
use Rattle.std.specs.List.{flat_map}
use Rattle.cedar_expr_trees.specs.Positions.{below, positions}
use Rattle.cedar_expr_trees.proofs.Gathered.{with_below}
use Rattle.cedar_expr_trees.proofs.Sizes.{arguments_are_smaller}
use Rattle.cedar_expr_trees.proofs.Walked.{call_below, set_below, record_below}
use Rattle.cedar_expr_trees.proofs.expr_iterator.+gather.Goals as goal

pub gather-gather_all-requires : goal.gather-gather_all-requires
gather-gather_all-requires g t c κs within =
    let call = c.in-ExtensionFunctionApp in
    let smaller = arguments_are_smaller {T = g.row.T.Denot} c.args.expr.now call.fn_name call.args c.as_slice.result.now call.is (c.as_slice.ensures.value ∙ ap (λ v. v.items) c.deref-in-ExtensionFunctionApp.ensures) in
    (omega (arith, smaller), search rules)

pub gather-returns-in-ExtensionFunctionApp : goal.gather-returns-in-ExtensionFunctionApp
gather-returns-in-ExtensionFunctionApp g t c =
    let call = c.in-ExtensionFunctionApp in
    let items = c.as_slice.ensures.value ∙ ap (λ v. v.items) c.deref-in-ExtensionFunctionApp.ensures in
    with_below {T = g.row.T.Denot} c.gather_all.result c.args.found.now.items c.push.new.self.items c.gather_all.new.found.items c.args.expr (flat_map (positions {T = g.row.T.Denot}) c.as_slice.result.now) c.in_ok-push.ensures.items
    (ap (below {T = g.row.T.Denot}) call.is ∙ call_below call.fn_name call.args ∙ ap (flat_map (positions {T = g.row.T.Denot})) (sym items))
    c.gather_all.ensures

pub gather-returns-in-Set : goal.gather-returns-in-Set
gather-returns-in-Set g t c =
    let set = c.in-Set in
    let items = c.as_slice-in-Set.ensures.value ∙ ap (λ v. v.items) c.deref-in-Set.ensures in
    with_below {T = g.row.T.Denot} c.gather_all-in-Set.result c.args.found.now.items c.push.new.self.items c.gather_all-in-Set.new.found.items c.args.expr (flat_map (positions {T = g.row.T.Denot}) c.as_slice-in-Set.result.now) c.in_ok-push.ensures.items
    (ap (below {T = g.row.T.Denot}) set.is ∙ set_below set.members ∙ ap (flat_map (positions {T = g.row.T.Denot})) (sym items))
    c.gather_all-in-Set.ensures

pub gather-returns-in-Record : goal.gather-returns-in-Record
gather-returns-in-Record g t c =
    let record_is = c.in-Record in
    with_below {T = g.row.T.Denot} c.gather_fields.result c.args.found.now.items c.push.new.self.items c.gather_fields.new.found.items c.args.expr (flat_map (positions {T = g.row.T.Denot}) (values c.deref-in-Record.result.now)) c.in_ok-push.ensures.items
    (ap (below {T = g.row.T.Denot}) record_is.is ∙ record_below record_is.fields ∙ ap (λ m. flat_map (positions {T = g.row.T.Denot}) (values m)) (sym c.deref-in-Record.ensures))
    c.gather_fields.ensures

pub gather-returns-in-GetAttr : goal.gather-returns-in-GetAttr
gather-returns-in-GetAttr g t c =
    let child = c.in-GetAttr in
    let one : below {T = g.row.T.Denot} c.args.expr.now.expr_kind ≡ positions {T = g.row.T.Denot} child.expr.value =
    ⊎_elim (λ p. ap below p.1) (⊎_elim (λ p. ap below p.1) (⊎_elim (λ p. ap below p.1) (⊎_elim (λ p. ap below p.1) (λ p. ap below p.1)))) child.is in
    with_below {T = g.row.T.Denot} c.gather-in-GetAttr.result c.args.found.now.items c.push.new.self.items c.gather-in-GetAttr.new.found.items c.args.expr (positions {T = g.row.T.Denot} c.deref-in-GetAttr.result.now) c.in_ok-push.ensures.items
    (one ∙ ap (positions {T = g.row.T.Denot}) (sym c.deref-in-GetAttr.ensures))
    c.gather-in-GetAttr.ensures

pub gather-returns-in_ok-gather-in-If-2 : goal.gather-returns-in_ok-gather-in-If-2
gather-returns-in_ok-gather-in-If-2 g t c = grind (arith, common_steps)

pub gather-returns-in_ok-gather-in-BinaryApp : goal.gather-returns-in_ok-gather-in-BinaryApp
gather-returns-in_ok-gather-in-BinaryApp g t c = grind (arith, common_steps)

pub gather-returns-in-UnaryApp : goal.gather-returns-in-UnaryApp
gather-returns-in-UnaryApp g t c = grind (arith, common_steps)

pub gather-returns-in-Lit : goal.gather-returns-in-Lit
gather-returns-in-Lit g t c = grind (arith, common_steps)

pub gather-returns-in-Lit-2 : goal.gather-returns-in-Lit-2
gather-returns-in-Lit-2 g t c = grind (arith, common_steps)

pub gather-returns-in-Lit-3 : goal.gather-returns-in-Lit-3
gather-returns-in-Lit-3 g t c = grind (arith, common_steps)

pub gather-returns-in-Lit-4 : goal.gather-returns-in-Lit-4
gather-returns-in-Lit-4 g t c = grind (arith, common_steps)

pub gather-returns-in_ok-gather-in-And : goal.gather-returns-in_ok-gather-in-And
gather-returns-in_ok-gather-in-And g t c = grind (arith, common_steps)

pub gather_all-loop-e-preserved : goal.gather_all-loop-e-preserved
gather_all-loop-e-preserved g t c = grind (arith, common_steps)

pub gather_all-returns : goal.gather_all-returns
gather_all-returns g t c = grind (arith, common_steps)

pub gather_fields-loop-e-preserved : goal.gather_fields-loop-e-preserved
gather_fields-loop-e-preserved g t c = grind (arith, common_steps)
