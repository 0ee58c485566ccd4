pub use Rattle.named_mains.proofs.named_items
pub use Rattle.unit_item_laws.proofs as unit_item_laws
