use Rattle.std.proofs.Common.{rules, ◌≡◌, [], ◌∷◌, ◌++◌, Contains, sym, ap, subst, take}
use Rattle.std.proofs.lemmas.List.{take_all}
use Rattle.std.proofs.lemmas.List.Elements.{Contains-append_left}
use Rattle.cedar_expr_names.specs.Views.{uid_of}
use Rattle.cedar_gate_wanted.specs.Rows.{found_at, uids}
use Rattle.cedar_gate_wanted.specs.Kept.{IsSpread}
use Rattle.cedar_gate_wanted.proofs.Going.{next_uid, pushed_uids}
use Rattle.cedar_gate_wanted.proofs.Spreading.{spread_lowered, spread_left}
use Rattle.cedar_gate_wanted.proofs.follow.spread.Goals.{then-branch+in_ok-clone+in_ok-push, else-branch}
use Rattle.cedar_gate_wanted.proofs.follow.spread.Goals as goal

pub returns-in_err-push-clause-next : goal.returns-in_err-push-clause-next
returns-in_err-push-clause-next c =
    let e : c.push.new.self.items ≡ c.loop-uid.next.items = search rules in
    λ x k. subst (λ zs. Contains (uids zs) x) (sym e) (c.loop-uid.invariant.next x k)

pub loop-uid-preserved : goal.loop-uid-preserved
loop-uid-preserved c =
    let more = next_uid c.args.mentioned.now c.loop-uid.uid-index c.uid-item.result c.loop-uid-test.true c.uid-item.is in
    record {
      spread = elim c.if-branch.branch [
        | then-branch+in_ok-clone+in_ok-push w ↦
            let e : uids c.if-branch.next.items ≡ uids c.loop-uid.next.items ++ uid_of c.uid-item.result ∷ [] = rw w.next-is (pushed_uids c.loop-uid.next.items w.push.new.self.items w.in_ok-clone.field-0 (uid_of c.uid-item.result) w.in_ok-push.ensures.items w.in_ok-clone.ensures.cases.0) in
            spread_lowered _ _ _ c.args.distance (uids (take c.loop-uid.uid-index c.args.mentioned.now)) _ (uids c.loop-uid.next.items) _ _ c.loop-uid.invariant.spread more e (c.in_ok-lower.ensures.lowered w.if-branch.true)
        | else-branch w ↦
            let e : uids c.if-branch.next.items ≡ uids c.loop-uid.next.items = rw w.next-is in
            spread_left _ _ _ c.args.distance (uids (take c.loop-uid.uid-index c.args.mentioned.now)) _ (uids c.loop-uid.next.items) _ _ c.loop-uid.invariant.spread more e (c.in_ok-lower.ensures.same w.if-branch.false) c.in_ok-lower.ensures.at
      ];
      next = λ x k. elim c.if-branch.branch [
        | then-branch+in_ok-clone+in_ok-push w ↦
            let e : uids c.if-branch.next.items ≡ uids c.loop-uid.next.items ++ uid_of c.uid-item.result ∷ [] = rw w.next-is (pushed_uids c.loop-uid.next.items w.push.new.self.items w.in_ok-clone.field-0 (uid_of c.uid-item.result) w.in_ok-push.ensures.items w.in_ok-clone.ensures.cases.0) in
            subst (λ zs. Contains zs x) (sym e) (Contains-append_left (uids c.loop-uid.next.items) _ x (c.loop-uid.invariant.next x k))
        | else-branch w ↦
            let e : uids c.if-branch.next.items ≡ uids c.loop-uid.next.items = rw w.next-is in
            subst (λ zs. Contains zs x) (sym e) (c.loop-uid.invariant.next x k)
      ];
      undo = λ f i. c.lower.ensures.undo f (c.loop-uid.invariant.undo f i);
    }

pub returns-clause-next : goal.returns-clause-next
returns-clause-next c = c.loop-uid.invariant.next

pub returns-clause-undo : goal.returns-clause-undo
returns-clause-undo c = c.loop-uid.invariant.undo

pub returns-in_err-lower-clause-next : goal.returns-in_err-lower-clause-next
returns-in_err-lower-clause-next c = c.loop-uid.invariant.next

pub returns-in_err-lower-clause-undo : goal.returns-in_err-lower-clause-undo
returns-in_err-lower-clause-undo c = λ f i. c.lower.ensures.undo f (c.loop-uid.invariant.undo f i)

pub returns-in_err-clone-clause-next : goal.returns-in_err-clone-clause-next
returns-in_err-clone-clause-next c = c.loop-uid.invariant.next

pub returns-in_err-clone-clause-undo : goal.returns-in_err-clone-clause-undo
returns-in_err-clone-clause-undo c = λ f i. c.lower.ensures.undo f (c.loop-uid.invariant.undo f i)

pub returns-in_err-push-clause-undo : goal.returns-in_err-push-clause-undo
returns-in_err-push-clause-undo c = λ f i. c.lower.ensures.undo f (c.loop-uid.invariant.undo f i)

pub returns-clause-spread : goal.returns-clause-spread
returns-clause-spread c =
    let all = take_all c.loop-uid.uid-index c.args.mentioned.now c.loop-uid-test.false in
    subst (λ us. IsSpread (found_at c.args.near.now) (found_at c.loop-uid.near) c.args.distance us (uids c.loop-uid.next.items)) (ap uids all) c.loop-uid.invariant.spread
