pub mod ResolvedOf
pub mod NamesOf
