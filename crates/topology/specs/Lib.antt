-- Kahn's order over the lent memory. First the definitions that contracts cite, then laws.
pub mod Links
pub mod Frame
pub mod Steps
pub mod Order
pub mod Loop
pub mod LinksLaws
pub mod FrameLaws
pub mod StepLaws
pub mod OrderLaws
pub mod LoopLaws
