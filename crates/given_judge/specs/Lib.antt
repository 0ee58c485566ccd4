pub mod GiftsSeen
pub mod KeptSeen
pub mod BlocksSeen
