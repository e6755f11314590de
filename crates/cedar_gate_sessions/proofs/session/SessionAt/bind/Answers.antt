use Rattle.std.proofs.Common.{rules, ◌≡◌, ◌∙◌, true, false, sym, subst, refl}
use Rattle.std.specs.Rc.{rc_str_bytes}
use Rattle.cedar_expr_values.specs.Extensions.{extension_of}
use Rattle.cedar_expr_values.specs.Members.{value_kept}
use Rattle.cedar_expr_values.specs.Values.{made}
use Rattle.cedar_evaluator_model.proofs.Represented.{well_of_represented}
use Rattle.cedar_evaluator_requests.specs.Views.{request_of}
use Rattle.cedar_gate_model.specs.Session.{with_bound}
use Rattle.cedar_gate_openings.specs.Faults.{IsValueFault}
use Rattle.cedar_gate_openings.specs.Names.{bound_in, is_open_by}
use Rattle.cedar_gate_openings.specs.Values.{takes}
use Rattle.cedar_gate_sessions.specs.Refused.{IsRefusedBinding}
use Rattle.cedar_gate_sessions.specs.Sessions.{FailsWith, IsSameSession}
use Rattle.cedar_gate_sessions.proofs.Binding.{handed, handed_on, value_fault_by, context_fault_by, values_with, stands_bound, taken_back}
use Rattle.cedar_gate_sessions.proofs.session.SessionAt.bind.Goals as goal

pub returns-then-not-branch-clause-refused : goal.returns-then-not-branch-clause-refused
returns-then-not-branch-clause-refused g c =
    let d = c.args.self.now in
    let closed : c.in_ok-is_open.field-0 ≡ false = search rules in
    subst (λ k. is_open_by (request_of d.start) (bound_in d.bound) k ≡ false) c.as_str.ensures.value (sym c.in_ok-is_open.ensures ∙ closed)

pub returns-in_err-check_value-clause-refused : goal.returns-in_err-check_value-clause-refused
returns-in_err-check_value-clause-refused g c =
    let d = c.args.self.now in
    let n = rc_str_bytes c.args.name in
    let m = made extension_of c.args.value in
    let f = c.in_err-check_value.field-0.0 in
    handed (IsRefusedBinding g.G.GateCalls.suits d n m) f c.from_residual-in_err-check_value.result c.from_residual-in_err-check_value.ensures.1
    (value_fault_by (request_of d.start) (bound_in d.bound) (FailsWith g.G.GateCalls.suits d n m) n m f
    (subst (λ k. IsValueFault (request_of d.start) k m f) c.as_str-2.ensures.value c.in_err-check_value.ensures.refused))

pub returns-in_err-put_value-clause-unchanged : goal.returns-in_err-put_value-clause-unchanged
returns-in_err-put_value-clause-unchanged g c = handed_on _ c.from_residual-in_err-put_value.result
    (record { gate = refl; start = refl; now = refl; bound = c.in_err-put_value.ensures.unchanged; loaded = record { entities = refl; seen = refl }; loading = record { wanted = refl; near = λ u. refl; rows = λ u. refl; level = refl } })

pub returns-in-Ok-clause-at : goal.returns-in-Ok-clause-at
returns-in-Ok-clause-at g c =
    let d = c.args.self.now in
    let n = rc_str_bytes c.args.name in
    let m = made extension_of c.args.value in
    let opened : c.in_ok-is_open.field-0 ≡ true = search rules in
    λ x s at represented.
    stands_bound g.G.GateCalls.suits x s d at n m _ c.roots_are_known.ensures c.a_binding_is_more.ensures (g.G.DeclaredActions.schema d.gate.now) (c.schema_is.ensures x (at.setup).gate) refl refl (record { entities = refl; seen = refl })
    (subst (λ k. is_open_by (request_of d.start) (bound_in d.bound) k ≡ true) c.as_str.ensures.value (sym c.in_ok-is_open.ensures ∙ opened))
    (subst (λ k. takes (request_of d.start) k m) c.as_str-2.ensures.value c.in_ok-check_value.ensures.takes)
    c.in_ok-put_value.ensures.put (c.in-Ok.ensures.now x (at.setup).gate) (c.in-Ok.ensures.evaluates x (at.setup).gate) c.in-Ok.ensures.level c.in-Ok.ensures.rows c.in-Ok.ensures.wanting c.in-Ok.ensures.kept
    (well_of_represented x.functions.table m (value_kept extension_of c.args.value) represented)

pub returns-in-Ok-clause-taken : goal.returns-in-Ok-clause-taken
returns-in-Ok-clause-taken g c =
    let d = c.args.self.now in
    let opened : c.in_ok-is_open.field-0 ≡ true = search rules in
    record {
      free = subst (λ k. is_open_by (request_of d.start) (bound_in d.bound) k ≡ true) c.as_str.ensures.value (sym c.in_ok-is_open.ensures ∙ opened);
      takes = subst (λ k. takes (request_of d.start) k (made extension_of c.args.value)) c.as_str-2.ensures.value c.in_ok-check_value.ensures.takes;
    }

pub returns-in-Ok-clause-evaluates : goal.returns-in-Ok-clause-evaluates
returns-in-Ok-clause-evaluates g c =
    let n = rc_str_bytes c.args.name in
    let m = made extension_of c.args.value in
    λ x gate s at. c.in-Ok.ensures.evaluates x gate (with_bound s n m) (values_with x s n m (bound_in c.args.self.now.bound) (bound_in c.put_value.new.bound) at c.in_ok-put_value.ensures.put)

pub returns-clause-refused : goal.returns-clause-refused
returns-clause-refused g c =
    let d = c.args.self.now in
    let n = rc_str_bytes c.args.name in
    let m = made extension_of c.args.value in
    context_fault_by (request_of d.start) (bound_in d.bound) _ (FailsWith g.G.GateCalls.suits d n m)
    (λ why x gate s at. why x gate (with_bound s n m) (values_with x s n m (bound_in d.bound) (bound_in c.put_value.new.bound) at c.in_ok-put_value.ensures.put)) n m c.in-Err.fault c.in-Err.ensures.refused

pub returns-clause-unchanged : goal.returns-clause-unchanged
returns-clause-unchanged g c =
    let d = c.args.self.now in
    let n = rc_str_bytes c.args.name in
    let opened : c.in_ok-is_open.field-0 ≡ true = search rules in
    record {
      gate = refl;
      start = refl;
      now = refl;
      bound = taken_back (request_of d.start) (bound_in d.bound) (bound_in c.put_value.new.bound) (bound_in c.take_value.new.bound) n c.as_str-in-Err.result.now (made extension_of c.args.value)
          (subst (λ k. is_open_by (request_of d.start) (bound_in d.bound) k ≡ true) c.as_str.ensures.value (sym c.in_ok-is_open.ensures ∙ opened))
          (c.as_str-in-Err.ensures.value ∙ c.in_ok-key.ensures.cases) c.in_ok-put_value.ensures.put c.take_value.ensures;
      loaded = record { entities = refl; seen = refl };
      loading = c.in-Err.ensures.unchanged;
    }
