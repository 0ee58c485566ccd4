pub mod BlockForms
pub mod NumberForms
