mod Annotated
pub mod Compared
mod RecordsCompared
