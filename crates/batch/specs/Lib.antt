pub mod Fronts
pub mod Layout
pub mod Marks
pub mod Reading
pub mod Records
pub mod Standing
pub mod Texts
pub mod Whole
