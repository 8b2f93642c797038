pub mod Drafts
pub mod MailboxNames
pub mod Reading
pub mod ReadingParts
pub mod Statements
pub mod Views
