pub mod Loop
pub mod HeadLaws
pub mod EntryLaws
pub mod PageLaws
pub mod Passing
