use Rattle.std.proofs.Common.{◌≡◌, refl, rules, [], ◌∷◌, ◌++◌, Some, string_bytes, sym, ap, ◌∙◌, append_assoc}
use Rattle.std.specs.Rc.{rc_str_bytes}
use Rattle.serde_json.proofs.Views.{Entry}
use Rattle.serde_json.specs.View.{view}
use Rattle.cedar_gate_expressions.specs.Maps.{under_text}
use Rattle.cedar_gate_expressions.proofs.Gathered.{next_member, nothing_before}
use Rattle.cedar_gate_expressions.proofs.Sorted.{same_names_more, all_rise}
use Rattle.cedar_gate_bundles.proofs.lists.read_each_pair.Goals as goal

pub loop-key-preserved : goal.loop-key-preserved
loop-key-preserved g c =
    let l = c.loop-key in
    let done = l.invariant.0 in
    let e : Entry = (c.in-Some.key.now, c.in-Some.member.now) in
    let left = c.next.new.self in
    let all : c.args.members.now.entries ≡ done ++ e ∷ left = l.invariant.1 ∙ ap (λ es. done ++ es) c.in-Some.ensures.steps in
    let h : rc_str_bytes c.in_ok-name.name ≡ string_bytes e.0 = c.in_ok-name.ensures.ok ∙ c.as_str.ensures.value in (
      done ++ e ∷ [],
      all ∙ sym (append_assoc done (e ∷ []) left),
      rw c.in_ok-push.ensures.items (same_names_more rc_str_bytes l.made.items c.in_ok-name.name c.in_ok-item.item done e l.invariant.2 h),
      λ x a.
          let go = under_text (g.R.ReaderByTable.reading x) in
          let read : go (string_bytes e.0) (view e.1) ≡ Some (rc_str_bytes c.in_ok-name.name, g.R.ReaderByTable.seen c.in_ok-item.item) = rw (h, c.in_ok-item.ensures.ok x a) refl in
          rw c.in_ok-push.ensures.items (next_member go (λ e. (rc_str_bytes e.0, g.R.ReaderByTable.seen e.1)) l.made.items (c.in_ok-name.name, c.in_ok-item.item) e left l.key-iterator c.in-Some.ensures.steps read) ∙ l.invariant.3 x a,
    )

pub loop-key-init : goal.loop-key-init
loop-key-init g c =
    let h : c.args.members.now.entries ≡ c.into_iter-key-iterator.result = search rules in
    let n : c.in_ok-made.made.items ≡ [] = search rules in
    ([], h, search rules, λ x a. rw (n, h) (nothing_before _))

pub returns-clause-rising : goal.returns-clause-rising
returns-clause-rising g c =
    let l = c.loop-key in
    all_rise g.R.ReaderByTable.seen l.made.items c.args.members.now.entries l.invariant.0 l.key-iterator l.invariant.2 l.invariant.1 c.in-None.ensures.steps.0 c.iter-key-items.ensures.ordered
