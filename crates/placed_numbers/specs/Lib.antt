pub mod Owned
pub use Rattle.placing_orders.specs as placing_orders
