-- A lent list of links as what counting reads of it.
pub mod Tied
