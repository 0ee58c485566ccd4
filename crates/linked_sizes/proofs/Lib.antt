pub mod Locals
pub mod Programs
