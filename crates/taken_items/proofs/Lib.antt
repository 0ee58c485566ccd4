pub mod RoomLaws
pub mod PadLaws
pub mod ValueLaws
pub mod NextLaws
