pub mod Csrs
pub mod Csr
