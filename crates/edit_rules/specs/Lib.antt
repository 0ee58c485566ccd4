pub mod Answers
pub mod FormatChecks
pub mod FormatParts
pub mod FormatPlaces
pub mod FormatScans
pub mod FormatStandings
pub mod ListPlaces
pub mod PartPlaces
pub mod Reader
pub mod TakeErrors
pub mod Walks
pub mod Writer
pub use Rattle.edit_meaning.specs as edit_meaning
