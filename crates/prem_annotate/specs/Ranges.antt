pub mod Slots
pub mod Outlook
