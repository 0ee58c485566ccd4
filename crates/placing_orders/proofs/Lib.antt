pub mod Within
pub mod Rising
pub mod NumberLaws
