pub mod TreeLaws
pub mod PartLaws
pub mod LengthForms
pub mod KnownLaws
pub mod AnyWalks
pub mod FaultForms
pub mod ItemLaws
pub mod SpanLaws
