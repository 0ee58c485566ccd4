pub mod ControlSteps
