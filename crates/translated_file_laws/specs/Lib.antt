pub mod FaithfulFiles
