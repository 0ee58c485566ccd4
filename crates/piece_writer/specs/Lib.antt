pub mod WrittenPieces
