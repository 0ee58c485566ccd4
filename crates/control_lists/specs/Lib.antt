pub mod Fields
pub mod Controls
pub mod Files
