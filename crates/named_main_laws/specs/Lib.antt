pub mod NamedBodies
pub use Rattle.c_spelling.specs.c_text
pub use Rattle.main_translation_laws.specs.lowering
