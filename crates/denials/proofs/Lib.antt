pub mod Subjects
pub mod Reasons
pub mod Rights
pub mod Rows
pub mod WhyDenied
pub mod DenyRows
