pub mod InOne
