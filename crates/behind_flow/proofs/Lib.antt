pub mod Further
pub mod FlowBehind
pub mod OutlineBehind
pub mod ContentBehind
pub use Rattle.behind_bounds.proofs as behind_bounds
