pub mod Paints
pub mod Made
pub mod Fonts
pub mod Spacing
