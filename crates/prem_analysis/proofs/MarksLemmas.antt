pub mod Stated
pub mod CalledTrees
pub mod Sets
pub mod Watched
