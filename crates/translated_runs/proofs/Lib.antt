pub mod TextsOnShelf
pub mod Excluded
pub mod Endings
