pub mod Usage
pub mod TranslateRows
pub mod CheckRows
pub mod SplitOutcomes
pub mod SplitRows
pub mod TopCall
pub mod HostRows
pub mod Program
