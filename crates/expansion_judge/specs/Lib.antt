pub mod NodesCounted
