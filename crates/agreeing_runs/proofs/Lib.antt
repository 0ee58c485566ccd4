mod ActLemmas
mod BeginLemmas
mod MismatchLemmas
mod OperandLemmas
mod PlaceLemmas
mod RefusedLemmas
mod RunLemmas
mod StepLemmas
