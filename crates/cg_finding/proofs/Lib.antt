pub mod Firsts
pub mod Loops
pub mod Members
pub mod Membership
pub mod Stages
pub mod Told
