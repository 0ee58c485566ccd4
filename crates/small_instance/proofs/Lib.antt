mod Positions
mod FirstLayer
mod Frames
mod CallWorld
mod SecondLayer
mod Whole
mod Counting
