pub mod LostCode
