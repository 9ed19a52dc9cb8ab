pub mod CrashLoop
pub mod DiskCalls
pub mod Names
pub mod NamesThere
