use Rattle.std.proofs.Common.{rules, ◌≡◌, true, false, sym, ◌∙◌, subst, refl}
use Rattle.std.specs.List.{list_all}
use Rattle.cedar_gate_wanted.specs.Kept.{IsKept}
use Rattle.cedar_gate_wanted.specs.Supplying.{AreKeys, IsUnfit}
use Rattle.cedar_gate_wanted.specs.Wanting.{IsWanting, near_in, mentions_of, wanted_in}
use Rattle.cedar_gate_wanted.specs.Rows.{uids}
use Rattle.cedar_gate_sessions.specs.Entities.{AddsAnswers, supplied_entities, supplied_of}
use Rattle.cedar_gate_sessions.specs.Faults.{IsSupplyFaultBy}
use Rattle.cedar_gate_sessions.specs.Loaded.{is_right}
use Rattle.cedar_gate_sessions.proofs.Parts.{keys_same, supplied_keys}
use Rattle.cedar_gate_sessions.proofs.Refusing.{unfit_is}
use Rattle.cedar_gate_sessions.proofs.Standing.{after_supply}
use Rattle.cedar_gate_sessions.proofs.Supplying.{one_wrong, all_right}
use Rattle.cedar_gate_sessions.proofs.session.SessionAt.supply.Goals as goal

pub returns-then-not-are_right-clause-refused : goal.returns-then-not-are_right-clause-refused
returns-then-not-are_right-clause-refused g c =
    let wrong : c.are_right.result ≡ false = search rules in
    let schema = g.G.DeclaredActions.schema (c.args.self.now).gate.now in
    one_wrong schema (supplied_of c.args.supplied.items) (subst (λ ps. list_all (is_right schema) (supplied_of ps) ≡ false) c.as_slice.ensures.value (sym c.are_right.ensures ∙ wrong))

pub returns-in-Ok-clause-at : goal.returns-in-Ok-clause-at
returns-in-Ok-clause-at g c =
    let d = c.args.self.now in
    let right : c.are_right.result ≡ true = search rules in
    λ x s at from.
    let schema = c.schema_is.ensures x (at.setup).gate in
    let before : IsWanting (g.G.DeclaredActions.schema d.gate.now) d.loading = subst (λ z. IsWanting z d.loading) (sym schema) at.wanting in
    after_supply g.G.GateCalls.suits x s d at _ c.args.supplied.items c.in_ok-parts.parts.rows.items c.uids_are_uids.ensures refl refl refl refl
    (subst (λ us. AddsAnswers (supplied_entities c.args.supplied.items) us d.loaded c.take_in.new.loaded) c.in_ok-parts.ensures.missing
    (subst (λ es. AddsAnswers es (uids c.in_ok-parts.parts.missing.items) d.loaded c.take_in.new.loaded) c.in_ok-parts.ensures.entities c.in-Ok.ensures.added)) c.in-Ok.ensures.level c.in_ok-parts.ensures.rows
    (subst (λ z. list_all (is_right z) (supplied_of c.args.supplied.items) ≡ true) schema
    (subst (λ ps. list_all (is_right (g.G.DeclaredActions.schema d.gate.now)) (supplied_of ps) ≡ true) c.as_slice.ensures.value (sym c.are_right.ensures ∙ right)))
    c.in-Ok.ensures.filled c.in-Ok.ensures.keys (subst (λ z. IsWanting z c.take_in.new.loading) schema (c.in-Ok.ensures.wanting before))
    (λ r k. subst (λ n. IsKept r (mentions_of c.take_in.new.loading) n (near_in c.take_in.new.loading)) (c.in-Ok.ensures.level ∙ at.level)
    (c.in-Ok.ensures.kept before r (subst (λ n. IsKept r (mentions_of d.loading) n (near_in d.loading)) (sym at.level) k)))
    from

pub returns-in-Ok-clause-taken : goal.returns-in-Ok-clause-taken
returns-in-Ok-clause-taken g c =
    let right : c.are_right.result ≡ true = search rules in
    let schema = g.G.DeclaredActions.schema (c.args.self.now).gate.now in
    record {
      keys = subst (AreKeys (wanted_in (c.args.self.now).loading)) (keys_same c.in_ok-parts.parts.rows.items c.args.supplied.items c.in_ok-parts.ensures.rows ∙ sym (supplied_keys c.args.supplied.items)) c.in-Ok.ensures.keys;
      right = all_right schema (supplied_of c.args.supplied.items) (subst (λ ps. list_all (is_right schema) (supplied_of ps) ≡ true) c.as_slice.ensures.value (sym c.are_right.ensures ∙ right));
    }

pub returns-in-Err-clause-refused : goal.returns-in-Err-clause-refused
returns-in-Err-clause-refused g c =
    let d = c.args.self.now in
    let ps = c.args.supplied.items in
    let schema = g.G.DeclaredActions.schema d.gate.now in
    let h = c.in-Err.ensures.refused in
    subst (IsSupplyFaultBy schema (wanted_in d.loading) (supplied_of ps)) (sym h.1) (unfit_is schema (wanted_in d.loading) (supplied_of ps) h.0
    (subst (λ ks. IsUnfit (wanted_in d.loading) ks h.0) (keys_same c.in_ok-parts.parts.rows.items ps c.in_ok-parts.ensures.rows ∙ sym (supplied_keys ps)) h.2))

pub returns-in-Err-clause-unchanged : goal.returns-in-Err-clause-unchanged
returns-in-Err-clause-unchanged g c = record { gate = refl; start = refl; now = refl; bound = λ n. refl; loaded = c.in-Err.ensures.stays; loading = c.in-Err.ensures.unchanged }
