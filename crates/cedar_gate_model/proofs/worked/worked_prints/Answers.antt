use Rattle.cedar_gate_model.proofs.Gate.Computed.{answers, refuses, stops, no_refusal}
use Rattle.cedar_gate_model.proofs.worked.worked_prints.Goals as goal

pub returns-clause-answers : goal.returns-clause-answers
returns-clause-answers c = answers

pub returns-clause-refuses : goal.returns-clause-refuses
returns-clause-refuses c = refuses

pub returns-clause-stops : goal.returns-clause-stops
returns-clause-stops c = stops

pub returns-clause-no_refusal : goal.returns-clause-no_refusal
returns-clause-no_refusal c = no_refusal
