pub mod Numbers
pub mod Items
pub mod ConfigLaws
pub mod PartLaws
pub mod ManifestLaws
pub mod Journals
