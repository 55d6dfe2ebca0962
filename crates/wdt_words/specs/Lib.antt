pub mod Named
pub mod Names
pub mod Numbers
pub mod Options
pub mod Remote
pub mod Words
