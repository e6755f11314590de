use Rattle.std.proofs.Common.{◌≡◌, Contains, refl, sym, subst}
use Rattle.cedar_expr_model.specs.Uid.{Uid}
use Rattle.cedar_gate_wanted.specs.Rows.{found_at, uids}
use Rattle.cedar_gate_wanted.specs.Supplying.{keys_in, AreKeys, IsUnfit, IsOut}
use Rattle.cedar_gate_wanted.specs.Wanting.{Exact, wanted_in}
use Rattle.cedar_gate_wanted.proofs.Checking.{handed}
use Rattle.cedar_gate_wanted.proofs.Taking.{kept_supply, put_back}
use Rattle.cedar_gate_wanted.proofs.loading.Loading.supply.Goals as goal

pub returns-in_err-check-clause-refused : goal.returns-in_err-check-clause-refused
returns-in_err-check-clause-refused g c =
    let self = c.args.self.now in
    handed (λ f. IsUnfit (wanted_in self) (keys_in c.args.rows.items) f) c.in_err-check.field-0.0 c.from_residual.result c.from_residual.ensures.1
    (subst (λ zs. IsUnfit (uids zs) (keys_in c.args.rows.items) c.in_err-check.field-0.0) c.as_slice-wanted.ensures.value
    (subst (λ zs. IsUnfit (uids c.as_slice-wanted.result.now) (keys_in zs) c.in_err-check.field-0.0) c.as_slice.ensures.value c.in_err-check.ensures.refused))

pub returns-in-Ok-clause-keys : goal.returns-in-Ok-clause-keys
returns-in-Ok-clause-keys g c =
    subst (λ zs. AreKeys (uids zs) (keys_in c.args.rows.items)) c.as_slice-wanted.ensures.value (subst (λ zs. AreKeys (uids c.as_slice-wanted.result.now) (keys_in zs)) c.as_slice.ensures.value c.in_ok-check.ensures.ok)

pub returns-in-Ok-clause-wanting : goal.returns-in-Ok-clause-wanting
returns-in-Ok-clause-wanting g c = λ w.
    let s = g.S.DeclaredActions.schema c.args.schema.now in
    let self = c.args.self.now in
    let exact : Exact s (uids c.as_slice-wanted.result.now) (found_at self.near) (found_at self.rows) = subst (λ zs. Exact s (uids zs) (found_at self.near) (found_at self.rows)) (sym c.as_slice-wanted.ensures.value) w.exact in
    let at : AreKeys (uids c.as_slice-wanted.result.now) (keys_in c.args.rows.items) = subst (λ zs. AreKeys (uids c.as_slice-wanted.result.now) (keys_in zs)) c.as_slice.ensures.value c.in_ok-check.ensures.ok in
    record {
      in_order = c.in-Ok.ensures.rising;
      exact = c.in-Ok.ensures.exact exact at;
      kept = kept_supply s (uids self.wanted.items) c.args.rows.items (found_at self.near) (found_at self.rows) w.exact (returns-in-Ok-clause-keys g c) (found_at c.take.new.near) (found_at c.take.new.rows) w.kept c.in-Ok.ensures.filled c.in-Ok.ensures.stays;
    }

pub returns-in-Ok-clause-kept : goal.returns-in-Ok-clause-kept
returns-in-Ok-clause-kept g c = λ w r k.
    let s = g.S.DeclaredActions.schema c.args.schema.now in
    let self = c.args.self.now in
    let exact : Exact s (uids c.as_slice-wanted.result.now) (found_at self.near) (found_at self.rows) = subst (λ zs. Exact s (uids zs) (found_at self.near) (found_at self.rows)) (sym c.as_slice-wanted.ensures.value) w.exact in
    let at : AreKeys (uids c.as_slice-wanted.result.now) (keys_in c.args.rows.items) = subst (λ zs. AreKeys (uids c.as_slice-wanted.result.now) (keys_in zs)) c.as_slice.ensures.value c.in_ok-check.ensures.ok in
    c.in-Ok.ensures.kept exact at r k

pub returns-in-Err-clause-unchanged : goal.returns-in-Err-clause-unchanged
returns-in-Err-clause-unchanged g c =
    let self = c.args.self.now in
    record {
      near = c.in-Err.ensures.near;
      rows = put_back (uids self.wanted.items) (keys_in c.args.rows.items) (found_at self.rows) (found_at c.take.new.rows) (found_at c.take_out_all.new.rows)
          (subst (λ zs. AreKeys (uids zs) (keys_in c.args.rows.items)) c.as_slice-wanted.ensures.value (subst (λ zs. AreKeys (uids c.as_slice-wanted.result.now) (keys_in zs)) c.as_slice.ensures.value c.in_ok-check.ensures.ok))
          self.fresh c.in-Err.ensures.rows (λ u. subst (λ zs. IsOut (uids zs) (found_at c.take.new.rows) (found_at c.take_out_all.new.rows) u) c.as_slice-in-Err.ensures.value (c.take_out_all.ensures u));
      wanted = refl;
      level = refl;
    }
