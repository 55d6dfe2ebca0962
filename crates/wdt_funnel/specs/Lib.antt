pub mod Barrier
pub mod Happenings
pub mod Inside
