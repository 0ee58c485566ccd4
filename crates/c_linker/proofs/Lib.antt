pub mod HidingSteps
pub mod ConstantLaws
pub mod PartLaws
pub mod FunctionLaws
pub mod FileLaws
pub mod ProgramLaws
