pub mod Bridge
pub mod Example
pub use Rattle.emitted_texts.specs.c_emit_laws
pub use Rattle.emitted_texts.specs as emitted_texts
pub use Rattle.emitted_texts.specs.output_laws
