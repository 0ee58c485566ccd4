pub mod SourceLoops
pub mod NamedAhead
pub mod KeptFunctions
pub mod Examples
pub use Rattle.loop_marks.specs.c_loops
pub use Rattle.loop_marks.specs as loop_marks
pub use Rattle.translated_files.specs as translated_files
