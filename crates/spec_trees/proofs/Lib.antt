pub mod Written
pub mod Laying
pub mod Deep
