pub mod FunctionLaws
pub mod FunctionList
pub mod Kernels
pub mod Passing
pub mod Segments
pub mod TableLemmas
pub mod Texts
