pub mod RecordLaws
pub mod HeadLaws
pub mod Standing
pub mod Runs
pub mod Loop
pub mod Spelling
