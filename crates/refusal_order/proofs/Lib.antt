pub mod RefusalOrder
pub mod FirstOfBoth
