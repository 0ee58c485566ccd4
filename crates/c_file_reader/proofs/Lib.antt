mod BodySteps
mod PartSteps
mod TextSteps
