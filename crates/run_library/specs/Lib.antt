pub mod Signatures
pub mod Kept
pub mod UnitsCalled
pub mod Replies
pub mod Devices
pub mod Room
