pub mod HidingLaws
