pub mod Desks
pub mod OneChip
pub mod Headline
pub mod Sentences
