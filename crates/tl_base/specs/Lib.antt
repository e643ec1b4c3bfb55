pub mod Along
pub mod NodeSet
pub mod formers
