pub mod Texts
pub mod Uncompiled
