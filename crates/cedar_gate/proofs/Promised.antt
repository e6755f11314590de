-- What is served under one promise is served under each that follows.
use Rattle.std.proofs.Common.{List, ℕ, Option, Result, Ok, Err}
use Rattle.cedar_expr_model.specs.Name.{Text}
use Rattle.cedar_gate_model.specs.Headline.{Promises, PrintedIsPromised}
use Rattle.cedar_evaluator_model.specs.Functions.{Functions}
use Rattle.cedar_gate_model.specs.Lines.{Status, Prints}
use Rattle.cedar_gate_model.specs.ReadingBundle.{input_read}
use Rattle.cedar_gate_model.specs.RunsAnswer.{MakeFairly}
use Rattle.cedar_gate_runs.specs.Statuses.{status_of}
use Rattle.cedar_gate_runs.specs.declared.status.Status as code
use Rattle.cedar_gate.specs.Serving.{ServeGives}
use Rattle.cedar_gate.specs.declared.faults.ServeFault.{ServeFault}
use Rattle.cedar_gate.specs.declared.faults.ServeFault.TheVariants.{Memory, Read, Write}

pub gives_more : (P Q : Status → Text → Type 0) → ((s : Status) (t : Text) → P s t → Q s t) → (old new : Option (List ℕ)) (r : Result code.Status ServeFault) → ServeGives P old new r → ServeGives Q old new r
gives_more P Q h old new (Ok status) p = let (text, may, adds) = p in (text, h (status_of status) text may, adds)
gives_more P Q h old new (Err Write) p = let (status, text, may, n, less, adds) = p in (status, text, h status text may, n, less, adds)
gives_more P Q h old new (Err Memory) p = tt
gives_more P Q h old new (Err Read) p = tt

-- what is printed is promised
pub gives_promised : (f : Functions) (bytes : List ℕ) (old new : Option (List ℕ)) (r : Result code.Status ServeFault) → PrintedIsPromised → MakeFairly f
    → ServeGives (Prints f (input_read f bytes)) old new r → ServeGives (Promises f (input_read f bytes)) old new r
gives_promised f bytes old new r law fair p = gives_more (Prints f (input_read f bytes)) (Promises f (input_read f bytes)) (λ s t q. law f bytes s t fair q) old new r p
