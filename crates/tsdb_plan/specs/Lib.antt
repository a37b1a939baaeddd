pub mod CrossPlan
pub mod Files
pub mod InnerPlan
pub mod Laws
pub mod Places
pub mod Steps
