use Rattle.std.proofs.Common.{◌++◌, map, fold, sym, ap, ◌∙◌, rules, arith}
use Rattle.std.specs.Hash as fed
use Rattle.std.specs.Rc.{rc_str_bytes}
use Rattle.cedar_expr_names.specs.Views.{plain_name_of}
use Rattle.cedar_expr_leaves.specs.Patterns.{pattern_of}
use Rattle.cedar_expr_model.specs.Builder.{trees, tree_fields}
use Rattle.cedar_expr_model.specs.Shape.{tree_rank}
use Rattle.cedar_expr_model.specs.Tree.{call, has_path, like, set_literal, record_literal}
use Rattle.cedar_expr_trees.specs.Trees.{tree_of, kind_tree, named, field_trees}
use Rattle.cedar_expr_trees.proofs.Sizes.{arguments_are_smaller}
use Rattle.cedar_expr_trees.proofs.Trees.{call_tree, set_tree, record_tree}
use Rattle.cedar_expr_values.specs.Inputs.{name_input}
use Rattle.cedar_expr_shapes.specs.Hashed.{tree_input, trees_input, count, tree_fields_input, field_count, element_input}
use Rattle.std.proofs.lemmas.List.{drop_all}
use Rattle.cedar_expr_trees.specs.declared.expr.Expr.{size-Expr}
use Rattle.cedar_expr_shapes.proofs.Smaller.{next_is_within, later_are_within, fewer}
use Rattle.cedar_expr_shapes.proofs.Feeding.{all_fed, fields_fed, counted, fields_counted, field_fed, two_steps, three_steps}
use Rattle.cedar_expr_shapes.proofs.hashed.+feed.Goals as goal

pub feed-feed_all-requires : goal.feed-feed_all-requires
feed-feed_all-requires g t c κs within =
    let made = c.in-ExtensionFunctionApp in
    let smaller = arguments_are_smaller {T = g.row.T.Denot} c.args.e.now made.fn_name made.args c.as_slice.result.now (sym c.expr_kind-kind.ensures.kind ∙ made.is) (c.as_slice.ensures.value ∙ ap (λ v. v.items) c.deref-in-ExtensionFunctionApp.ensures) in
    (omega (arith, smaller), search rules)

pub feed-returns-in-ExtensionFunctionApp : goal.feed-returns-in-ExtensionFunctionApp
feed-returns-in-ExtensionFunctionApp g t c =
    let w = g.H.Hasher.write in
    let made = c.in-ExtensionFunctionApp in
    let ts = trees (map (tree_of {T = g.row.T.Denot}) c.as_slice.result.now) in
    let is =
    sym c.expr_kind-kind.ensures.tree
    ∙ ap (kind_tree {T = g.row.T.Denot}) made.is
    ∙ call_tree {T = g.row.T.Denot} made.fn_name made.args
    ∙ ap (λ es. call (plain_name_of made.fn_name) (trees (map (tree_of {T = g.row.T.Denot}) es))) (sym (c.as_slice.ensures.value ∙ ap (λ v. v.items) c.deref-in-ExtensionFunctionApp.ensures)) in
    let place = ap tree_rank (c.expr_kind-kind.ensures.tree ∙ is) in
    three_steps w c.args.state.now c.feed_rank.new.state c.feed_name.new.state c.feed_all.new.state (fed.u8 9) (name_input (plain_name_of made.fn_name)) (fed.usize (count ts) ++ trees_input ts)
    (c.feed_rank.ensures ∙ ap (λ n. fold w c.args.state.now (fed.u8 n)) place)
    c.feed_name.ensures
    c.feed_all.ensures
    ∙ ap (λ u. fold w c.args.state.now (tree_input u)) (sym is)

pub feed-returns-in-Set : goal.feed-returns-in-Set
feed-returns-in-Set g t c =
    let w = g.H.Hasher.write in
    let made = c.in-Set in
    let ts = trees (map (tree_of {T = g.row.T.Denot}) c.as_slice-in-Set.result.now) in
    let is =
    sym c.expr_kind-kind.ensures.tree
    ∙ ap (kind_tree {T = g.row.T.Denot}) made.is
    ∙ set_tree {T = g.row.T.Denot} made.members
    ∙ ap (λ es. set_literal (trees (map (tree_of {T = g.row.T.Denot}) es))) (sym (c.as_slice-in-Set.ensures.value ∙ ap (λ v. v.items) c.deref-in-Set.ensures)) in
    let place = ap tree_rank (c.expr_kind-kind.ensures.tree ∙ is) in
    two_steps w c.args.state.now c.feed_rank.new.state c.feed_all-in-Set.new.state (fed.u8 15) (fed.usize (count ts) ++ trees_input ts)
    (c.feed_rank.ensures ∙ ap (λ n. fold w c.args.state.now (fed.u8 n)) place)
    c.feed_all-in-Set.ensures
    ∙ ap (λ u. fold w c.args.state.now (tree_input u)) (sym is)

pub feed-returns-in-Record : goal.feed-returns-in-Record
feed-returns-in-Record g t c =
    let w = g.H.Hasher.write in
    let made = c.in-Record in
    let fs = tree_fields (named (field_trees {T = g.row.T.Denot} c.deref-in-Record.result.now.entries)) in
    let is =
    sym c.expr_kind-kind.ensures.tree
    ∙ ap (kind_tree {T = g.row.T.Denot}) made.is
    ∙ record_tree {T = g.row.T.Denot} made.fields
    ∙ ap (λ m. record_literal (tree_fields (named (field_trees {T = g.row.T.Denot} m.entries)))) (sym c.deref-in-Record.ensures) in
    let place = ap tree_rank (c.expr_kind-kind.ensures.tree ∙ is) in
    two_steps w c.args.state.now c.feed_rank.new.state c.feed_fields.new.state (fed.u8 16) (fed.usize (field_count fs) ++ tree_fields_input fs)
    (c.feed_rank.ensures ∙ ap (λ n. fold w c.args.state.now (fed.u8 n)) place)
    c.feed_fields.ensures
    ∙ ap (λ u. fold w c.args.state.now (tree_input u)) (sym is)

pub feed-returns-in-Like : goal.feed-returns-in-Like
feed-returns-in-Like g t c =
    let w = g.H.Hasher.write in
    let made = c.in-Like in
    let child = tree_of {T = g.row.T.Denot} c.deref-in-Like.result.now in
    let is =
    sym c.expr_kind-kind.ensures.tree
    ∙ ap (kind_tree {T = g.row.T.Denot}) made.is
    ∙ ap (λ e. like (tree_of {T = g.row.T.Denot} e) (pattern_of made.pattern)) (sym c.deref-in-Like.ensures) in
    let place = ap tree_rank (c.expr_kind-kind.ensures.tree ∙ is) in
    three_steps w c.args.state.now c.feed_rank.new.state c.feed-in-Like.new.state c.feed_pattern.new.state (fed.u8 13) (tree_input child) (fed.slice element_input (pattern_of made.pattern))
    (c.feed_rank.ensures ∙ ap (λ n. fold w c.args.state.now (fed.u8 n)) place)
    c.feed-in-Like.ensures
    c.feed_pattern.ensures
    ∙ ap (λ u. fold w c.args.state.now (tree_input u)) (sym is)

pub feed-returns-in-ExtHasAttr : goal.feed-returns-in-ExtHasAttr
feed-returns-in-ExtHasAttr g t c =
    let w = g.H.Hasher.write in
    let made = c.in-ExtHasAttr in
    let child = tree_of {T = g.row.T.Denot} c.deref-in-ExtHasAttr.result.now in
    let path = c.deref-in-ExtHasAttr-2.result.now in
    let is =
    sym c.expr_kind-kind.ensures.tree
    ∙ ap (kind_tree {T = g.row.T.Denot}) made.is
    ∙ ap (λ e. has_path (tree_of {T = g.row.T.Denot} e) (rc_str_bytes made.attrs.value.head) (map rc_str_bytes made.attrs.value.tail.items)) (sym c.deref-in-ExtHasAttr.ensures)
    ∙ ap (λ a. has_path child (rc_str_bytes a.head) (map rc_str_bytes a.tail.items)) (sym c.deref-in-ExtHasAttr-2.ensures) in
    let place = ap tree_rank (c.expr_kind-kind.ensures.tree ∙ is) in
    three_steps w c.args.state.now c.feed_rank.new.state c.feed-in-ExtHasAttr.new.state c.feed_path.new.state (fed.u8 12) (tree_input child) (fed.str (rc_str_bytes path.head) ++ fed.slice fed.str (map rc_str_bytes path.tail.items))
    (c.feed_rank.ensures ∙ ap (λ n. fold w c.args.state.now (fed.u8 n)) place)
    c.feed-in-ExtHasAttr.ensures
    c.feed_path.ensures
    ∙ ap (λ u. fold w c.args.state.now (tree_input u)) (sym is)

pub feed_all-returns : goal.feed_all-returns
feed_all-returns g t c =
    let w = g.H.Hasher.write in
    let es = c.args.exprs.now in
    let ts = trees (map (tree_of {T = g.row.T.Denot}) es) in
    two_steps w c.args.state.now c.feed_count.new.state c.loop-e.state (fed.usize (count ts)) (trees_input ts)
    (c.feed_count.ensures ∙ ap (λ n. fold w c.args.state.now (fed.usize n)) (counted {T = g.row.T.Denot} es))
    (sym (ap (λ xs. fold w c.loop-e.state (all_fed w {T = g.row.T.Denot} xs)) (drop_all c.loop-e.e-index es c.loop-e-test.false)) ∙ c.loop-e.invariant)

pub feed_fields-returns : goal.feed_fields-returns
feed_fields-returns g t c =
    let w = g.H.Hasher.write in
    let es = c.args.fields.now.entries in
    let fs = tree_fields (named (field_trees {T = g.row.T.Denot} es)) in
    two_steps w c.args.state.now c.feed_count.new.state c.loop-name.state (fed.usize (field_count fs)) (tree_fields_input fs)
    (c.feed_count.ensures ∙ ap (λ n. fold w c.args.state.now (fed.usize n)) (c.len.ensures.len ∙ fields_counted {T = g.row.T.Denot} es))
    (sym (ap (λ xs. fold w c.loop-name.state (fields_fed w {T = g.row.T.Denot} xs)) c.in_default.ensures) ∙ c.loop-name.invariant.fed)

pub feed_fields-feed-requires : goal.feed_fields-feed-requires
feed_fields-feed-requires g t c κs within =
    let smaller = next_is_within (size-Expr g.row.T.Denot) c.args.fields.now.entries c.loop-name.left.left c.next_field.new.fields.left c.in-Some.name.now c.in-Some.e.now c.loop-name.invariant.within c.in-Some.ensures in
    (omega (arith, smaller), search rules)

pub feed_fields-loop-name-smaller : goal.feed_fields-loop-name-smaller
feed_fields-loop-name-smaller g t c = fewer c.loop-name.left.left c.next_field.new.fields.left (c.in-Some.name.now, c.in-Some.e.now) c.in-Some.ensures

pub feed_fields-loop-name-preserved : goal.feed_fields-loop-name-preserved
feed_fields-loop-name-preserved g t c =
    let w = g.H.Hasher.write in
    let later = c.next_field.new.fields.left in
    record {
      fed = field_fed w {T = g.row.T.Denot} c.loop-name.state c.feed_text.new.state c.feed.new.state c.loop-name.left.left later c.in-Some.name.now c.in-Some.e.now _ c.in-Some.ensures c.loop-name.invariant.fed c.feed_text.ensures c.feed.ensures;
      within = later_are_within (size-Expr g.row.T.Denot) c.args.fields.now.entries c.loop-name.left.left later c.in-Some.name.now c.in-Some.e.now c.loop-name.invariant.within c.in-Some.ensures;
    }
