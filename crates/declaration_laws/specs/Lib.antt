pub use Rattle.refusal_order.specs.declaration_rows
