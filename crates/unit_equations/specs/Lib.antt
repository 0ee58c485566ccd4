pub mod BlocksTold
pub mod NumbersTold
