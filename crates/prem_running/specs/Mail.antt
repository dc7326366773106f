pub mod Files
pub mod Text
pub mod Mail
pub mod Again
