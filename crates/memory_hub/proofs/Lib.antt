pub mod Standing
pub mod NamesOf
pub mod Does
