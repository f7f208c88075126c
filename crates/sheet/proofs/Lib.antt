mod ChangeFacts
mod HeldFacts
pub mod QuestionFacts
pub mod SpansFacts
mod Sights
mod AllRuled
mod Once
mod Lawful
mod Tellings
mod Asking
mod Turns
pub mod LockedRules
pub mod Governing
