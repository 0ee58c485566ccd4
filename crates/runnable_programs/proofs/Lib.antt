pub mod FrameLaws
pub mod DataLaws
pub mod RoomLaws
