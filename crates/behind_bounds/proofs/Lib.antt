pub mod StepsBehind
pub mod ValuesBehind
pub mod CallsBehind
pub mod ItemsBehind
