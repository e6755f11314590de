use Rattle.cedar_gate_model.proofs.Gate.Transcripts.{asked_is_in_slice, asked_once, rounds_are_few, slice_is_asked}
use Rattle.cedar_gate_model.proofs.Gate.AlikeRuns.{nothing_twice}
use Rattle.cedar_gate_model.proofs.laws.legal_transcripts_ask_the_slice.Goals as goal

pub returns-clause-within : goal.returns-clause-within
returns-clause-within c = asked_is_in_slice

pub returns-clause-once : goal.returns-clause-once
returns-clause-once c = asked_once

pub returns-clause-never_twice : goal.returns-clause-never_twice
returns-clause-never_twice c = nothing_twice

pub returns-clause-few : goal.returns-clause-few
returns-clause-few c = rounds_are_few

pub returns-clause-exact : goal.returns-clause-exact
returns-clause-exact c = slice_is_asked
