pub mod Directory
pub mod Disk
pub mod Runs
pub mod Reads
pub mod Goes
pub mod Quiet
