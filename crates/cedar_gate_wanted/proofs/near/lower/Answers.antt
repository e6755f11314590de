use Rattle.std.proofs.Common.{◌≡◌, ◌⊎◌, Some, rules, refl, subst, arith}
use Rattle.std.proofs.lemmas.Bool.{true≢false}
use Rattle.cedar_expr_model.specs.Uid.{Uid}
use Rattle.cedar_expr_names.specs.Views.{uid_of}
use Rattle.cedar_gate_wanted.specs.Rows.{found_at}
use Rattle.cedar_gate_wanted.proofs.Undoing.{undo_logged, write_kept, write_put}
use Rattle.cedar_gate_wanted.proofs.near.lower.Goals as goal

pub returns-in_err-clone-2-clause-undo : goal.returns-in_err-clone-2-clause-undo
returns-in_err-clone-2-clause-undo c = λ f i. undo_logged c.args.log.now.items c.push.new.self.items c.in_ok-clone.field-0 (uid_of c.args.uid.now) c.match-was.was f (found_at c.args.near.now) (found_at c.args.near.now) c.in_ok-push.ensures.items c.in_ok-clone.ensures.cases.0 (write_kept _ _ _ _ (search rules) (λ q. refl)) i

pub returns-in_err-put_at-clause-undo : goal.returns-in_err-put_at-clause-undo
returns-in_err-put_at-clause-undo c = λ f i. undo_logged c.args.log.now.items c.push.new.self.items c.in_ok-clone.field-0 (uid_of c.args.uid.now) c.match-was.was f (found_at c.args.near.now) (found_at c.put_at.new.near) c.in_ok-push.ensures.items c.in_ok-clone.ensures.cases.0 (write_kept _ _ _ _ (search rules) c.in_err-put_at.ensures.unchanged) i

pub returns-clause-undo : goal.returns-clause-undo
returns-clause-undo c =
    let e = c.in_ok-clone-2.ensures.cases.0 in
    let here = subst (λ u. found_at c.put_at.new.near u ≡ Some c.args.distance) e c.in_ok-put_at.ensures.here in
    let apart = λ (x : Uid). subst (λ u. (x ≡ u) ⊎ (found_at c.put_at.new.near x ≡ found_at c.args.near.now x)) e (c.in_ok-put_at.ensures.apart x) in
    let put = write_put (uid_of c.args.uid.now) c.match-was.was c.args.distance (found_at c.args.near.now) (found_at c.put_at.new.near) (search rules) here apart in
    λ f i. undo_logged c.args.log.now.items c.push.new.self.items c.in_ok-clone.field-0 (uid_of c.args.uid.now) c.match-was.was f (found_at c.args.near.now) (found_at c.put_at.new.near) c.in_ok-push.ensures.items c.in_ok-clone.ensures.cases.0 put i

pub returns-then-now-distance-clause-undo : goal.returns-then-now-distance-clause-undo
returns-then-now-distance-clause-undo c = λ f i. i

pub returns-in_err-clone-clause-undo : goal.returns-in_err-clone-clause-undo
returns-in_err-clone-clause-undo c = λ f i. i

pub returns-clause-lowered : goal.returns-clause-lowered
returns-clause-lowered c = λ q. record {
  here = subst (λ u. found_at c.put_at.new.near u ≡ Some c.args.distance) c.in_ok-clone-2.ensures.cases.0 c.in_ok-put_at.ensures.here;
  nearer = search rules;
  apart = λ x. subst (λ u. (x ≡ u) ⊎ (found_at c.put_at.new.near x ≡ found_at c.args.near.now x)) c.in_ok-clone-2.ensures.cases.0 (c.in_ok-put_at.ensures.apart x);
}

pub returns-clause-same : goal.returns-clause-same
returns-clause-same c = λ q. absurd (true≢false q)

pub returns-clause-at : goal.returns-clause-at
returns-clause-at c = (c.args.distance, subst (λ u. found_at c.put_at.new.near u ≡ Some c.args.distance) c.in_ok-clone-2.ensures.cases.0 c.in_ok-put_at.ensures.here, omega arith)
