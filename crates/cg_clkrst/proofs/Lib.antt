mod PortLists
pub mod NamedSources
mod Owners
mod FirstLacks
mod Tyings
mod OwnPorts
