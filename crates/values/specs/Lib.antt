pub mod AnnexF
pub mod Known
