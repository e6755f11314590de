use Rattle.std.proofs.Common.{map, fold, refl, ap, ◌∙◌}
use Rattle.std.specs.Hash as fed
use Rattle.std.specs.Rc.{rc_str_bytes}
use Rattle.cedar_expr_shapes.proofs.Feeding.{two_steps, slices_fed}
use Rattle.cedar_expr_shapes.proofs.fed.feed_path.Goals as goal

pub returns : goal.returns
returns g c =
    let w = g.H.Hasher.write in
    let path = c.args.path.now in
    two_steps w c.args.state.now c.hash.new.state c.hash-2.new.state (fed.str (rc_str_bytes path.head)) (fed.slice fed.str (map rc_str_bytes path.tail.items))
    c.hash.ensures
    (c.hash-2.ensures ∙ ap (fold w c.hash.new.state) (slices_fed _ fed.str rc_str_bytes (λ a. refl) path.tail.items))
