pub mod NamedBodies
pub use Rattle.named_main_laws.specs.c_text
pub use Rattle.unit_translation_laws.specs as unit_translation_laws
