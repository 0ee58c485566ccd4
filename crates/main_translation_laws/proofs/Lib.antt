pub mod FlowLaws
pub mod Lists
pub mod Names
pub mod Contents
pub mod Storage
pub mod Built
pub mod Translated
pub mod ExampleHolds
pub use Rattle.main_programs.proofs.c_emit_laws
pub use Rattle.main_programs.proofs.c_laws
pub use Rattle.main_programs.proofs.c_structure_laws
pub use Rattle.main_programs.proofs.fortran_laws
pub use Rattle.main_programs.proofs.linking_laws
pub use Rattle.main_programs.proofs.main_file_laws
pub use Rattle.main_programs.proofs as main_programs
pub use Rattle.ways_back.proofs as ways_back
