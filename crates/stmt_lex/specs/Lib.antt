pub mod Cursors
pub mod CursorWalks
pub mod DigitValues
pub mod PlacesOfTokens
pub mod SeenTokens
pub mod Standings
pub mod TokensOfTexts
