-- Cases of definitions, computed.
pub mod Block
pub mod GatesAndWindows
pub mod Shadow
pub mod ShadowRun
pub mod Values
