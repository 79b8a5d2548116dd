pub mod Changes
pub mod Queued
pub mod Laws
pub mod Agendas
pub mod Tables
pub mod Additions
