pub mod CallBridge
