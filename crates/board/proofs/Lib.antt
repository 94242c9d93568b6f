pub mod Folds
pub mod Cells
pub mod Rooms
pub mod Books
pub mod Relinking
