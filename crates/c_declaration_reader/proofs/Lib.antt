mod BoundedSteps
mod HeadSteps
mod NewNames
mod NumberSteps
mod ScopeSteps
mod WordSteps
