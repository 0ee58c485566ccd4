pub mod ArmLemmas
pub mod RangeChains
pub mod BranchForms
pub mod EntryForms
pub mod BlockLemmas
pub mod RowLemmas
pub mod SharingLemmas
