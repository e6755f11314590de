use Rattle.std.proofs.Common.{◌≡◌, ◌⊎◌, ◌+◌, true, false, Some, sym, ap, ◌∙◌, subst, take, drop}
use Rattle.std.specs.Prelude.{is_some}
use Rattle.cedar_expr_model.specs.Uid.{Uid}
use Rattle.cedar_expr_names.specs.Views.{uid_of}
use Rattle.cedar_gate_wanted.specs.Rows.{found_at}
use Rattle.cedar_gate_wanted.specs.Supplying.{keys_in}
use Rattle.cedar_gate_wanted.proofs.Testing.{next_key, all_keys, met_is, met_again, once_more, has_more}
use Rattle.cedar_gate_wanted.proofs.supplied.keys_once.Goals as goal

pub returns-then-branch : goal.returns-then-branch
returns-then-branch c =
    let xs = c.args.supplied.now in
    let i = c.loop-uid.uid-index in
    let x = c.loop-uid-item.result in
    let stood = sym c.if-branch.true ∙ c.in_ok-put_key.ensures.stood ∙ ap (λ z. is_some (found_at c.loop-uid.keys z)) c.in_ok-clone.ensures.cases.0 in
    met_again (keys_in (take i xs)) (keys_in xs) (keys_in (drop (i + 1) xs)) (uid_of x.0) (all_keys xs i x c.loop-uid-test.true c.loop-uid-item.is) c.loop-uid.invariant.once
    (met_is (found_at c.loop-uid.keys) (keys_in (take i xs)) c.loop-uid.invariant.has (uid_of x.0) true stood)

pub loop-uid-preserved : goal.loop-uid-preserved
loop-uid-preserved c =
    let xs = c.args.supplied.now in
    let i = c.loop-uid.uid-index in
    let x = c.loop-uid-item.result in
    let same : uid_of c.in_ok-clone.field-0 ≡ uid_of x.0 = c.in_ok-clone.ensures.cases.0 in
    let new = sym c.if-branch.false ∙ c.in_ok-put_key.ensures.stood ∙ ap (λ z. is_some (found_at c.loop-uid.keys z)) same in
    let goes = next_key xs i x c.loop-uid-test.true c.loop-uid-item.is in
    record {
      once = once_more (keys_in (take i xs)) (keys_in (take (i + 1) xs)) (uid_of x.0) goes c.loop-uid.invariant.once (met_is (found_at c.loop-uid.keys) (keys_in (take i xs)) c.loop-uid.invariant.has (uid_of x.0) false new);
      has = has_more (found_at c.loop-uid.keys) (keys_in (take i xs)) c.loop-uid.invariant.has (keys_in (take (i + 1) xs)) (uid_of x.0) (found_at c.put_key.new.keys) tt goes
          (subst (λ z. found_at c.put_key.new.keys z ≡ Some tt) same c.in_ok-put_key.ensures.here)
          (subst (λ z. (y : Uid) → (y ≡ z) ⊎ (found_at c.put_key.new.keys y ≡ found_at c.loop-uid.keys y)) same c.in_ok-put_key.ensures.apart);
    }
