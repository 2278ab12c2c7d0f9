pub mod Firsts
pub mod Stuck
pub mod SameRules
pub mod OneFault
pub mod OneVerdict
pub mod InOrder
