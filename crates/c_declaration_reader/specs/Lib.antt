pub mod Endings
pub mod HeadParts
pub mod Items
pub mod SeenDeclarations
