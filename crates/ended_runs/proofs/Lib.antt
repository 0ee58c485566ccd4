pub mod EndedTexts
