pub mod LebLaws
pub mod ZigzagLaws
pub mod PackingLaws
pub mod Reading
pub mod Moving
pub mod BitOrder
pub mod ListLaws
