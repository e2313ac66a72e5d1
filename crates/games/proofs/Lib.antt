-- Games computed by the definitions.
pub mod Games
pub mod Strikes
pub mod Report
