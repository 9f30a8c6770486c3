-- The machine's answer is the tree or the first syntax fault.
pub mod Machine
pub mod Openers
pub mod Answers
