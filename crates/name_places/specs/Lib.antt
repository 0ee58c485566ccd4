pub mod FirstPlaces
pub mod SeenNames
pub use Rattle.name_uses.specs as name_uses
