pub mod Plans
pub mod SwitchCases
pub mod Taking
