-- Whether something is open in a request.
use Rattle.std.proofs.Common.{◌≡◌, ◌⊎◌, ◌||◌, true, false, Bool, cond, not, is_some, Option, Some, None, Result, Ok, Err, IfOk, codes, inl, inr, ⊎_elim, refl, sym, ap, ◌∙◌}
use Rattle.std.specs.Str.{bytes_eq}
use Rattle.std.proofs.lemmas.Slice.Eq.{bytes_eq-Decides}
use Rattle.cedar_expr_model.specs.Name.{Text}
use Rattle.cedar_expr_model.specs.Made.{Made}
use Rattle.cedar_expr_model.specs.Parts.{Unknown, unknowns}
use Rattle.cedar_expr_model.specs.Tree.{record_literal}
use Rattle.cedar_expr_model.proofs.Lists.{both_hold, hold_both, hold_left, hold_right}
use Rattle.cedar_evaluator_model.specs.Response.{PartialRequest}
use Rattle.cedar_evaluator_model.specs.Scope.{Context, closed, residual_fields, unknown_context}
use Rattle.cedar_gate_model.specs.Session.{entry_named, is_open_entry, is_open_context}
use Rattle.cedar_gate_openings.specs.Names.{HasOpenBy, is_open_variable, has_open_in, has_open_by}
use Rattle.cedar_gate_openings.proofs.Absent.{any_there, any_seen}

never : false ≡ true → ⊥
never e = cc

either_true : (a b : Bool) → (a || b) ≡ true → (a ≡ true) ⊎ (b ≡ true)
either_true true b e = inl refl
either_true false b e = inr e

same_name : (n m : Text) → bytes_eq n m ≡ true → n ≡ m
same_name n m e = (bytes_eq-Decides n m).0 e

same_itself : (n : Text) → bytes_eq n n ≡ true
same_itself n = (bytes_eq-Decides n n).1 refl

module _ (r : PartialRequest) (values : Text → Option Made) where
  variable_open : (n : Text) → is_open_variable r values n ≡ true → HasOpenBy r values
  variable_open n e =
      let p = both_hold (not (is_some (values n))) (is_open_entry (entry_named r n)) e in
      (n, hold_both (not (is_some (values n))) (is_open_entry (entry_named r n) || is_open_context r.context n) p.0 (hold_left (is_open_entry (entry_named r n)) (is_open_context r.context n) p.1))

  context_open : (n : Text) → not (is_some (values n)) ≡ true → is_open_context r.context n ≡ true → HasOpenBy r values
  context_open n e h = (n, hold_both (not (is_some (values n))) (is_open_entry (entry_named r n) || is_open_context r.context n) e (hold_right (is_open_entry (entry_named r n)) (is_open_context r.context n) h))

  part_open : (c : Context) → r.context ≡ c → has_open_in values c ≡ true → HasOpenBy r values
  part_open (closed fs) q e = absurd (never e)
  part_open (residual_fields fs) q e =
      let k = any_there (λ u. not (is_some (values u.name))) (unknowns (record_literal fs)) e in
      context_open (k.0).name k.2 (ap (λ c. is_open_context c (k.0).name) q ∙ any_seen (λ (u : Unknown). bytes_eq (k.0).name u.name) (unknowns (record_literal fs)) k.0 k.1 (same_itself (k.0).name))
  part_open unknown_context q e = context_open (codes "context") e (ap (λ c. is_open_context c (codes "context")) q ∙ same_itself (codes "context"))

  open_there : has_open_by r values ≡ true → HasOpenBy r values
  open_there e =
      let p = is_open_variable r values (codes "principal") in
      let a = is_open_variable r values (codes "action") in
      let o = is_open_variable r values (codes "resource") in
      ⊎_elim (λ k. ⊎_elim (variable_open (codes "principal")) (λ l. ⊎_elim (variable_open (codes "action")) (variable_open (codes "resource")) (either_true a o l)) (either_true p (a || o) k))
      (part_open r.context refl) (either_true (p || (a || o)) (has_open_in values r.context) e)

  -- the entry of an open variable is one of the three
  abbrev Variables : Bool
  Variables = is_open_variable r values (codes "principal") || (is_open_variable r values (codes "action") || is_open_variable r values (codes "resource"))

  of_variable : (n v : Text) → bytes_eq n v ≡ true → not (is_some (values n)) ≡ true → is_open_entry (entry_named r v) ≡ true → is_open_variable r values v ≡ true
  of_variable n v q e h = hold_both (not (is_some (values v))) (is_open_entry (entry_named r v)) (ap (λ k. not (is_some (values k))) (sym (same_name n v q)) ∙ e) h

  entry_open : (n : Text) → not (is_some (values n)) ≡ true → is_open_entry (entry_named r n) ≡ true → Variables ≡ true
  entry_open n e h = go (bytes_eq n (codes "principal")) (bytes_eq n (codes "action")) (bytes_eq n (codes "resource")) refl refl refl h
    where
      go : (p a o : Bool) → bytes_eq n (codes "principal") ≡ p → bytes_eq n (codes "action") ≡ a → bytes_eq n (codes "resource") ≡ o
          → is_open_entry (cond p (Some r.principal) (cond a (Some r.action) (cond o (Some r.resource) None))) ≡ true → Variables ≡ true
      go true a o p q s k = hold_left (is_open_variable r values (codes "principal")) _ (of_variable n (codes "principal") p e k)
      go false true o p q s k = hold_right (is_open_variable r values (codes "principal")) _ (hold_left (is_open_variable r values (codes "action")) _ (of_variable n (codes "action") q e k))
      go false false true p q s k = hold_right (is_open_variable r values (codes "principal")) _ (hold_right (is_open_variable r values (codes "action")) _ (of_variable n (codes "resource") s e k))
      go false false false p q s k = absurd (never k)

  context_seen : (n : Text) (c : Context) → not (is_some (values n)) ≡ true → is_open_context c n ≡ true → has_open_in values c ≡ true
  context_seen n (closed fs) e h = h
  context_seen n (residual_fields fs) e h =
      let k = any_there (λ (u : Unknown). bytes_eq n u.name) (unknowns (record_literal fs)) h in
      any_seen (λ (u : Unknown). not (is_some (values u.name))) (unknowns (record_literal fs)) k.0 k.1 (ap (λ m. not (is_some (values m))) (sym (same_name n (k.0).name k.2)) ∙ e)
  context_seen n unknown_context e h = ap (λ m. not (is_some (values m))) (sym (same_name n (codes "context") h)) ∙ e

  none_open : has_open_by r values ≡ false → HasOpenBy r values → ⊥
  none_open e h =
      let n = h.0 in
      let p = both_hold (not (is_some (values n))) (is_open_entry (entry_named r n) || is_open_context r.context n) h.1 in
      never (sym e ∙ ⊎_elim (λ k. hold_left Variables _ (entry_open n p.0 k)) (λ k. hold_right Variables _ (context_seen n r.context p.0 k)) (either_true (is_open_entry (entry_named r n)) (is_open_context r.context n) p.1))

  -- A call that answers whether anything is open by these values says so of the request.
  pub open_where : {E : Type 0} (q : Result Bool E) → IfOk q (λ b. b ≡ has_open_by r values) → IfOk q (λ b. b ≡ true → HasOpenBy r values)
  open_where (Ok b) h = λ e. open_there (sym h ∙ e)
  open_where (Err x) h = tt

  pub none_where : {E : Type 0} (q : Result Bool E) → IfOk q (λ b. b ≡ has_open_by r values) → IfOk q (λ b. b ≡ false → HasOpenBy r values → ⊥)
  none_where (Ok b) h = λ e. none_open (sym h ∙ e)
  none_where (Err x) h = tt
