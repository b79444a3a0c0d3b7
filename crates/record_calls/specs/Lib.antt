-- Records and tag lists on bare numbers: what each call promises.
pub mod Records
