-- Records: signature records, read and written; their promises.
pub mod Records
