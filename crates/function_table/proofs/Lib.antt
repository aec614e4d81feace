pub mod GroupLemmas
pub mod TestKernels
