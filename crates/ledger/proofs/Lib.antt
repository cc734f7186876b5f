pub mod StoryLaws
pub mod StruckLaws
pub mod DeskLaws
