pub mod OneTree
pub mod FirstOnes
