pub mod OwnSetting
pub mod PlainProcedures
pub mod SpellableUnits
pub use Rattle.plain_forms.specs.c_structure
pub use Rattle.plain_forms.specs.c_tree
pub use Rattle.plain_forms.specs.f_tree
pub use Rattle.plain_forms.specs.faithful
pub use Rattle.kept_bounds.specs as kept_bounds
pub use Rattle.plain_forms.specs.l_core
pub use Rattle.plain_forms.specs.lowering
pub use Rattle.plain_forms.specs.lowering_laws
pub use Rattle.plain_forms.specs.main_file
pub use Rattle.plain_forms.specs.main_translation
pub use Rattle.plain_forms.specs as plain_forms
