pub mod Association
pub mod Attributes
pub mod CNames
pub mod Checks
pub mod Courses
pub mod Facts
pub mod Folds
pub mod FormatChoice
pub mod Holding
pub mod Images
pub mod Lines
pub mod Meaning
pub mod Nests
pub mod Places
pub mod RangeActs
pub mod Reading
pub mod Records
pub mod RefusalRows
pub mod Runs
pub mod Setting
pub mod SimplePrograms
pub mod Statuses
pub mod Step
pub mod Store
pub mod Terms
pub mod Transfers
pub mod UnitStatements
pub mod Uses
pub mod Values
pub mod Valuing
pub mod WellFormed
pub mod WellTyped
pub mod World
pub use Rattle.edit_meaning.specs as edit_meaning
pub use Rattle.run_state.specs as run_state
pub use Rattle.simulation.specs as simulation
