pub use Rattle.item_emission.proofs as item_emission
pub use Rattle.item_emission.proofs.named_items
