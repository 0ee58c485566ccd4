pub mod TextRows
pub use Rattle.c_rows.specs as c_rows
