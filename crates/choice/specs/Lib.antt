pub mod Sets
pub mod Outs
pub mod Changed
pub mod After
pub mod Filled
pub mod Table
pub mod Said
