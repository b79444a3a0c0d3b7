-- Tag lists built into signatures: the promises of the pass, and of what it fills.
pub mod Filled
pub mod Builds
