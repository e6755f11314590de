-- New roots.
use Rattle.std.proofs.Common.{◌≡◌, inl, inr, ℕ, suc, List, ◌++◌, Contains, Option, Some, ◌<◌, sym, ◌∙◌, subst, arith}
use Rattle.std.proofs.lemmas.List.Elements.{Contains-append_left, Contains-append_right, Contains-append_cases}
use Rattle.cedar_expr_model.specs.Uid.{Uid}
use Rattle.cedar_gate_wanted.specs.Kept.{IsKept, IsSettling, IsSpread}
use Rattle.cedar_gate_wanted.specs.Rows.{IsPending}
use Rattle.cedar_gate_wanted.proofs.Settling.{IsNear-more, kept_settling}
use Rattle.cedar_gate_wanted.proofs.Spreading.{IsBelow-spread}

some_one : (a b : ℕ) (o : Option ℕ) → o ≡ Some a → o ≡ Some b → a ≡ b
some_one a b o p q = cc

pub settling_roots : (r new : List Uid) (m : Uid → List Uid) (n : ℕ) (f g : Uid → Option ℕ) (rows : ℕ → List Uid) (now : List Uid) → 0 < n → now ≡ rows 0 → IsSpread f g 0 new now → IsKept r m n f → IsSettling (r ++ new) m n g (IsPending rows g)
settling_roots r new m n f g rows now some there l kept = let s = kept_settling r m n f (IsPending rows g) kept in record {
  below = λ y e is. elim (l.lowered y) [
    | inl same ↦ s.below y e (sym same ∙ is)
    | inr (here, c, b, nearer) ↦ (let h : e ≡ 0 = some_one e 0 (g y) is here in omega arith)
  ];
  sound = λ y e is. elim (l.lowered y) [
    | inl same ↦ IsNear-more r (r ++ new) m m (λ x c. Contains-append_left r new x c) (λ v x c. c) (suc e) y (s.sound y e (sym same ∙ is))
    | inr (here, c, b, nearer) ↦ inl (Contains-append_right r new y c)
  ];
  rooted = λ u c lt. elim (Contains-append_cases r new u c) [
    | inl old ↦ IsBelow-spread f g 0 new now l 1 u (s.rooted u old lt)
    | inr fresh ↦ l.reached u fresh
  ];
  closed = λ v u e is c lt. elim (l.lowered v) [
    | inr (here, k, b, nearer) ↦ inr (0, here, subst (λ xs. Contains xs v) there b)
    | inl same ↦ elim (s.closed v u e (sym same ∙ is) c lt) [ inl b ↦ inl (IsBelow-spread f g 0 new now l (suc (suc e)) u b) | inr p ↦ inr p ]
  ];
}
