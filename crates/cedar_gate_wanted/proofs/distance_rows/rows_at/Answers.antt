use Rattle.std.proofs.Common.{rules, arith, Option, ◌≡◌, inl, inr, ℕ, Some, None, Contains, sym, ◌∙◌, subst, take}
use Rattle.std.proofs.lemmas.List.{take_all}
use Rattle.std.proofs.lemmas.List.Elements.{Contains-push_cases}
use Rattle.std.specs.Ordering.{nat_cmp}
use Rattle.std.specs.BTreeMap.{get}
use Rattle.cedar_expr_names.specs.Views.{uid_of}
use Rattle.cedar_gate_wanted.specs.Rows.{row_of, uids, found_at}
use Rattle.cedar_gate_wanted.proofs.Going.{next_uid}
use Rattle.cedar_gate_wanted.proofs.distance_rows.rows_at.Goals.{in-Some+in_ok-clone+in_ok-put, in_default}
use Rattle.cedar_gate_wanted.proofs.distance_rows.rows_at.Goals as goal

some_one : (a b : ℕ) (o : Option ℕ) → o ≡ Some a → o ≡ Some b → a ≡ b
some_one a b o p q = cc

none_some : (b : ℕ) (o : Option ℕ) → o ≡ None → o ≡ Some b → ⊥
none_some b o p q = cc

pub loop-key-preserved : goal.loop-key-preserved
loop-key-preserved c =
    let more = next_uid c.args.keys.now c.loop-key.key-index c.key-item.result c.loop-key-test.true c.key-item.is in
    elim c.match-distance_of.branch [
      | in-Some+in_ok-clone+in_ok-put w ↦ rw w.pending-is (λ x d k at. elim (Contains-push_cases _ _ x (subst (λ zs. Contains zs x) more k)) [
        | inl old ↦ w.in_ok-put.ensures.kept d x (c.loop-key.invariant x d old at)
        | inr new ↦
            (let here : found_at c.args.near.now (uid_of c.key-item.result) ≡ Some w.in-Some.distance = search rules in
            let is : found_at c.args.near.now (uid_of c.key-item.result) ≡ Some d = subst (λ z. found_at c.args.near.now z ≡ Some d) (sym new) at in
            let e : w.in-Some.distance ≡ d = some_one _ _ _ here is in
            subst (λ z. Contains (row_of (get nat_cmp w.put.new.pending) d) z) (w.in_ok-clone.ensures.cases.0 ∙ new) (subst (λ j. Contains (row_of (get nat_cmp w.put.new.pending) j) (uid_of w.in_ok-clone.field-0)) e w.in_ok-put.ensures.put))
      ])
      | in_default w ↦ rw w.pending-is (λ x d k at. elim (Contains-push_cases _ _ x (subst (λ zs. Contains zs x) more k)) [
        | inl old ↦ c.loop-key.invariant x d old at
        | inr new ↦ (let no : found_at c.args.near.now (uid_of c.key-item.result) ≡ None = search rules in
            absurd (none_some d _ no (subst (λ z. found_at c.args.near.now z ≡ Some d) (sym new) at)))
      ])
    ]

pub returns : goal.returns
returns c = let all : take c.loop-key.key-index c.args.keys.now ≡ c.args.keys.now = take_all c.loop-key.key-index c.args.keys.now (omega arith) in
    λ x d k at. c.loop-key.invariant x d (subst (λ zs. Contains (uids zs) x) (sym all) k) at
