-- Bytes read: what the calls on records and tag lists share.
pub mod Bytes
pub mod Scans
