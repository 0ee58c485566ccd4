pub mod FaithfulSets
