pub mod Arrays
pub mod Lists
pub mod Members
pub mod Reading
pub mod Spelled
pub mod Text
pub mod Transactions
pub mod Unread
