pub mod LookupLemmas
pub mod TableLemmas
pub mod AnswerLemmas
pub mod LoopLemmas
