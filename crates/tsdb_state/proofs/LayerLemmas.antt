pub mod Places
pub mod Values
pub mod Tests
pub mod Rising
pub mod Moves
pub mod JobMarks
