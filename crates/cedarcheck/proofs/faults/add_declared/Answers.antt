use Rattle.std.proofs.Common.{sym, ap, ◌∙◌}
use Rattle.std.specs.Prelude.{not}
use Rattle.cedar_gate_fragments.specs.Written.{declared_by}
use Rattle.cedar_gate_model.specs.Acceptance.{extension_types}
use Rattle.cedarcheck.proofs.Broken.{external_number}
use Rattle.cedarcheck.proofs.faults.add_declared.Goals as goal

pub returns : goal.returns
returns c = λ s d told h.
    c.in_ok-add_unless.ensures s (λ e. external_number s (declared_by c.args.fragments.now) d (ap not (sym (c.declare_external-is_complete.ensures (extension_types s.table))) ∙ e))
    (c.in_ok-add_ill_formed.ensures s told h)
