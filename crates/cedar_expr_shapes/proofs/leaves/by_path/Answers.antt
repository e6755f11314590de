use Rattle.std.proofs.Common.{refl, ap, ◌∙◌}
use Rattle.std.specs.Ordering.{ordering_then}
use Rattle.std.specs.Rc.{rc_str_bytes}
use Rattle.cedar_expr_model.specs.Order.{text_cmp}
use Rattle.cedar_expr_shapes.proofs.Comparing.{slices_by}
use Rattle.cedar_expr_shapes.proofs.leaves.by_path.Goals as goal

pub returns : goal.returns
returns c =
    c.cmp.ensures
    ∙ ap (ordering_then (text_cmp (rc_str_bytes c.args.left.now.head) (rc_str_bytes c.args.right.now.head)))
    (slices_by _ text_cmp rc_str_bytes (λ a b. refl) c.args.left.now.tail.items c.args.right.now.tail.items)
