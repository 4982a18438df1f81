pub mod Frame
pub mod Framed
pub mod FileFront
