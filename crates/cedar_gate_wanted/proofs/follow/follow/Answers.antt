use Rattle.std.proofs.Common.{rules, ◌+◌, ◌≡◌, Some, ap, subst, take, add-one}
use Rattle.std.proofs.lemmas.List.{take_all}
use Rattle.cedar_expr_names.specs.Views.{uid_of}
use Rattle.cedar_gate_wanted.specs.Kept.{IsFollowed}
use Rattle.cedar_gate_wanted.specs.Rows.{found_at, mentions_in, uids}
use Rattle.cedar_gate_wanted.proofs.Going.{next_uid}
use Rattle.cedar_gate_wanted.proofs.Following.{followed_more, followed_skip}
use Rattle.cedar_gate_wanted.proofs.follow.follow.Goals.{then-eq+in_ok-spread, else-eq}
use Rattle.cedar_gate_wanted.proofs.follow.follow.Goals as goal

pub loop-key-preserved : goal.loop-key-preserved
loop-key-preserved c =
    let more = next_uid c.args.keys.now c.loop-key.key-index c.key-item.result c.loop-key-test.true c.key-item.is in
    elim c.if-eq.branch [
      | then-eq+in_ok-spread w ↦
          let at : found_at c.loop-key.near (uid_of c.key-item.result) ≡ Some c.args.distance = search rules in
          rw w.near-is rw w.log-is rw w.next-is record {
            followed = followed_more (mentions_in c.args.loaded.now) _ _ _ c.args.distance (c.args.distance + 1) (uids (take c.loop-key.key-index c.args.keys.now)) _ (uids c.loop-key.next.items) _ (uids w.mentions.result.now) _ c.loop-key.invariant.followed more w.spread.ensures.next at w.mentions.ensures (add-one c.args.distance) w.in_ok-spread.ensures.spread;
            next = λ x k. w.spread.ensures.next x (c.loop-key.invariant.next x k);
            undo = λ f i. w.spread.ensures.undo f (c.loop-key.invariant.undo f i);
          }
      | else-eq w ↦
          rw w.near-is rw w.log-is rw w.next-is record {
            followed = followed_skip (mentions_in c.args.loaded.now) _ _ c.args.distance (uids (take c.loop-key.key-index c.args.keys.now)) _ (uids c.loop-key.next.items) _ c.loop-key.invariant.followed more (λ e. search rules);
            next = c.loop-key.invariant.next;
            undo = c.loop-key.invariant.undo;
          }
    ]

pub returns-clause-next : goal.returns-clause-next
returns-clause-next c = c.loop-key.invariant.next

pub returns-clause-undo : goal.returns-clause-undo
returns-clause-undo c = c.loop-key.invariant.undo

pub returns-in_err-spread-clause-next : goal.returns-in_err-spread-clause-next
returns-in_err-spread-clause-next c = λ x k. c.spread.ensures.next x (c.loop-key.invariant.next x k)

pub returns-in_err-spread-clause-undo : goal.returns-in_err-spread-clause-undo
returns-in_err-spread-clause-undo c = λ f i. c.spread.ensures.undo f (c.loop-key.invariant.undo f i)

pub returns-clause-followed : goal.returns-clause-followed
returns-clause-followed c =
    let all = take_all c.loop-key.key-index c.args.keys.now c.loop-key-test.false in
    let mentions = mentions_in c.args.loaded.now in
    subst (λ ks. IsFollowed mentions (found_at c.args.near.now) (found_at c.loop-key.near) c.args.distance ks (uids c.loop-key.next.items)) (ap uids all) c.loop-key.invariant.followed
