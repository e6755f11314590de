-- Out of memory tells no name, and so refuses nothing.
use Rattle.std.proofs.Common.{◌≡◌, Option, None, Result, Ok, Err, IfErr}
use Rattle.std.specs.Result.{IsErrAnd}
use Rattle.cedar_schema_decl.specs.Conditional.{Conditional}
use Rattle.cedar_schema_decl.specs.Refusals.{RefusesBy}

pub untold : {X E B : Type 0} {P : E → Type 0} (tells : E → Option Conditional) (o : Result B Conditional) (r : Result X E) → ((e : E) → P e → tells e ≡ None) → IsErrAnd r P → IfErr r (RefusesBy tells o)
untold tells o (Ok x) law h = tt
untold tells o (Err e) law h = λ q u. let n : tells e ≡ None = law e h in absurd (cc)
