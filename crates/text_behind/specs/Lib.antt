pub mod LabelsBehind
