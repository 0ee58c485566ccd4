pub mod GoodExact
pub mod Judging
