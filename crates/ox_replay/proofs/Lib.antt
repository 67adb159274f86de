pub mod ReplayByRecord
