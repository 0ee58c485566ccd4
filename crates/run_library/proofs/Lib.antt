pub mod KeptLaws
pub mod CountLaws
