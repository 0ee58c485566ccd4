pub mod FunctionFrames
