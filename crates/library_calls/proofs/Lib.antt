pub mod OrLemmas
pub mod ArgumentLemmas
pub mod CopyLemmas
pub mod PieceLemmas
pub mod NameLemmas
pub mod TextLemmas
pub mod CallLemmas
