pub mod LinkedPrograms
