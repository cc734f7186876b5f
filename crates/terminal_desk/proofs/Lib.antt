pub mod Marks
pub mod FirstRows
pub mod Walking
pub mod Rising
pub mod NewestOnes
pub mod Searching
pub mod OneChain
