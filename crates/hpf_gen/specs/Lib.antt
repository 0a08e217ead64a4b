pub mod Generated
pub mod Left
