-- The laws of the scheduling call, and of its C form.
pub mod CallLaws
pub mod InCLaws
