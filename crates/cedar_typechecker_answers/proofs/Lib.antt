mod Sequenced
pub mod RowMarks
pub mod Fields
pub mod Copied
