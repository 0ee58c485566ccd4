pub mod ShapeForms
