pub mod Items
pub mod Ages
pub mod Fronts
pub mod Firsts
pub mod Linking
pub mod Lists
pub mod Rooms
