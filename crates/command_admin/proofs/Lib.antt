pub mod AdminLaws
pub mod FlagLaws
