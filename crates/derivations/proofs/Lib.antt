pub mod AllocLaws
pub mod Ends
