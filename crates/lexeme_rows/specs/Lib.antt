pub mod KindRows
pub mod PieceRows
pub mod RefusedTexts
