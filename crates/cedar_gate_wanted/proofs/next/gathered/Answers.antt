use Rattle.std.proofs.Common.{rules, ◌≡◌, ◌<◌, ◌≤◌, ◌++◌, ◌∷◌, [], ◌+◌, true, false, Bool, sym, ap, ◌∙◌, subst, take, length}
use Rattle.std.proofs.lemmas.List.{take_all}
use Rattle.cedar_expr_model.specs.Uid.{Uid}
use Rattle.cedar_expr_names.specs.Views.{uid_of}
use Rattle.cedar_gate_wanted.specs.Rows.{found_at, uids}
use Rattle.cedar_gate_wanted.specs.Wanting.{is_open}
use Rattle.cedar_gate_wanted.specs.Supplying.{keys_in}
use Rattle.cedar_gate_wanted.proofs.Gathering.{Have, took_one, took_none}
use Rattle.cedar_gate_wanted.proofs.Going.{pushed_uids}
use Rattle.cedar_gate_wanted.proofs.Testing.{next_key}
use Rattle.cedar_gate_wanted.proofs.next.gathered.Goals.{then-is_open+in_ok-clone+in_ok-push, else-is_open}
use Rattle.cedar_gate_wanted.proofs.next.gathered.Goals as goal

pub loop-uid-preserved : goal.loop-uid-preserved
loop-uid-preserved g c =
    let i = c.loop-uid.uid-index in
    let x = c.loop-uid-item.result in
    let t : Uid → Bool = λ u. is_open (g.S.DeclaredActions.schema c.args.schema.now) (found_at c.args.near.now u) (found_at c.args.rows.now u) u in
    let goes : keys_in (take (i + 1) c.args.log.now.items) ≡ keys_in (take i c.args.log.now.items) ++ uid_of x.0 ∷ [] =
    subst (λ zs. keys_in (take (i + 1) zs) ≡ keys_in (take i zs) ++ uid_of x.0 ∷ []) c.deref-uid-items.ensures.value (next_key c.deref-uid-items.result.now i x c.loop-uid-test.true c.loop-uid-item.is) in
    elim c.if-is_open.branch [
      | then-is_open+in_ok-clone+in_ok-push w ↦ (let e : uids c.if-is_open.all.items ≡ uids c.loop-uid.all.items ++ uid_of x.0 ∷ [] =
          rw w.all-is (pushed_uids c.loop-uid.all.items w.push.new.self.items w.in_ok-clone.field-0 (uid_of x.0) w.in_ok-push.ensures.items w.in_ok-clone.ensures.cases.0) in
          took_one t (uids c.loop-uid.all.items) (uids c.args.others.now) (keys_in (take i c.args.log.now.items)) (keys_in (take (i + 1) c.args.log.now.items)) (uid_of x.0) goes c.loop-uid.invariant (uids c.if-is_open.all.items) e
          (sym c.is_open.ensures ∙ w.if-is_open.true))
      | else-is_open w ↦ rw w.all-is (took_none t (uids c.loop-uid.all.items) (uids c.args.others.now) (keys_in (take i c.args.log.now.items)) (keys_in (take (i + 1) c.args.log.now.items)) (uid_of x.0) goes c.loop-uid.invariant
          (sym c.is_open.ensures ∙ w.if-is_open.false))
    ]

pub returns : goal.returns
returns g c =
    let log = c.args.log.now.items in
    let all : take c.loop-uid.uid-index log ≡ log = take_all c.loop-uid.uid-index log (subst (λ zs. length zs ≤ c.loop-uid.uid-index) c.deref-uid-items.ensures.value c.loop-uid-test.false) in
    λ u. subst (λ zs. Have (λ v. is_open (g.S.DeclaredActions.schema c.args.schema.now) (found_at c.args.near.now v) (found_at c.args.rows.now v) v) (uids c.loop-uid.all.items) (uids c.args.others.now) (keys_in zs) u) all (c.loop-uid.invariant u)
