-- The laws of counting a lent list of links.
pub mod TiedLaws
