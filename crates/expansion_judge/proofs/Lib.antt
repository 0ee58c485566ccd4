pub mod CountForms
pub mod CountLaws
pub mod FunctionLaws
