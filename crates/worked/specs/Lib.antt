-- Worked: document 01's starred cases.
pub mod Case
pub mod Check
pub mod Axes
pub mod Records
pub mod Loose
pub mod Ordered
pub mod Starred
pub mod Instances
pub mod AxesShut
pub mod BlocksShut
pub mod RecordsUsed
pub mod CallsUsed
pub mod LooseUsed
