use Rattle.std.proofs.Common.{◌≡◌, ap, sym, ◌∙◌, Some, string_bytes}
use Rattle.serde_json.specs.View.{view}
use Rattle.cedar_gate_model.specs.ReadingSchema.{namespace_read}
use Rattle.cedar_gate_fragments.specs.Written.{declared_in_fragment}
use Rattle.cedar_gate_fragments.proofs.Together.{next_namespace}
use Rattle.cedar_gate_fragments.proofs.fragments.add_namespaces.Goals as goal

pub loop-key-preserved : goal.loop-key-preserved
loop-key-preserved c =
    let f = c.in_ok-fragment.fragment in
    let named : namespace_read (string_bytes c.in-Some.key.now) (view c.in-Some.member.now) ≡ Some (declared_in_fragment f) =
    ap (λ k. namespace_read k (view c.in-Some.member.now)) (sym c.as_str.ensures.value) ∙ c.in_ok-fragment.ensures.ok in
    rw c.in_ok-push.ensures.items (next_namespace c.loop-key.fragments.items f (c.in-Some.key.now, c.in-Some.member.now) c.next.new.self c.loop-key.key-iterator c.in-Some.ensures.steps named ∙ c.loop-key.invariant)
