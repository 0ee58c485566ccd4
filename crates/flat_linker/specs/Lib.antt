pub mod LostNames
pub mod PutItems
pub mod Parts
pub mod LabelMarks
pub mod CaseNumbers
