pub mod WholeTable
