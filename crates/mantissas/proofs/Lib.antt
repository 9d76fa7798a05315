pub mod MantissaLaws
pub mod TallyLaws
