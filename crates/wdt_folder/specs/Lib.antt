pub mod FolderState
pub mod SourceFaults
pub mod Untold
