use Rattle.std.proofs.Common.{◌≡◌, ◌<◌, ◌∙◌, ℕ, List, length, string_bytes, subst}
use Rattle.std.specs.Io.KnownBytes.{Appends}
use Rattle.std.specs.Prelude.{IfSome, take}
use Rattle.cedar_gate_model.specs.ReadingBundle.{input_read}
use Rattle.cedar_gate_runs.specs.Statuses.{status_of}
use Rattle.cedar_gate.specs.Serving.{Judged}
use Rattle.cedar_gate.proofs.service.serve_printed.Goals as goal

pub returns-clause-judged : goal.returns-clause-judged
returns-clause-judged g c = λ bytes x is agrees.
    let given = subst (λ o. IfSome o (λ bs. c.in_ok-input.input.items ≡ bs)) is c.in_ok-input.ensures.read in
    let judged = subst (λ bs. Judged (input_read x bs) (status_of c.in-Ok.printed.status) (string_bytes c.in-Ok.printed.text)) (c.as_slice.ensures.value ∙ given) (c.in-Ok.ensures.judged x agrees) in
    let (n, less, adds) = subst (λ (bs : List ℕ). (n : ℕ) × (n < length bs) × Appends (g.W.Write.contents c.args.writer.now) (g.W.Write.contents c.write_out.new.writer) (take n bs)) c.as_bytes.ensures.value c.in-Err.ensures.fault in
    (status_of c.in-Ok.printed.status, string_bytes c.in-Ok.printed.text, judged, n, less, adds)
