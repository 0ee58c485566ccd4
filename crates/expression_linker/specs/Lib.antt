pub mod NamesInScope
pub mod StringsSeen
pub mod LinkedParts
pub mod Mentions
