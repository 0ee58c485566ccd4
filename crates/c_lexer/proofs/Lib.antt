pub mod HeadLemmas
pub mod LineFeeds
pub mod NumberLemmas
pub mod PartLemmas
pub mod ReaderLemmas
pub mod SignLemmas
pub mod StringLemmas
