pub mod Finding
pub mod Found
pub mod Refusal
pub mod Violations
pub mod Rules
pub mod Told
