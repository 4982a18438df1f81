pub mod Lay
pub mod Laying
