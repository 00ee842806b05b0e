pub mod Rows
pub mod Stored
pub mod Tables
pub mod TableLaws
