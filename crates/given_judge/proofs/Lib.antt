pub mod GiftLemmas
pub mod GivenForms
pub mod OwnerForms
pub mod KeptLemmas
pub mod RowForms
