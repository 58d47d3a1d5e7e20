pub mod Dump
pub mod Sound
pub mod Refusal
pub mod Standing
pub mod Seen
pub mod Digits
pub mod Put
pub mod Read
