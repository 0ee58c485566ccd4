pub mod LongFiles
pub mod AlikeSources
pub mod OneSet
pub mod OneRefusal
pub mod EarlyPhases
pub mod FirstMentions
pub mod FrontLaws
