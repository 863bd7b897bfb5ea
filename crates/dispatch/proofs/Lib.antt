-- Laws of what the dispatcher has to meet, and what follows from its contracts.
pub mod Tests
pub mod MeetsLaws
pub mod SuspendLaws
pub mod AdmissionLaws
pub mod ExtensionLaws
pub mod LayingLaws
pub mod TellingLaws
pub mod SendingLaws
pub mod CounterSetLaws
pub mod AnswerLaws
pub mod Outcomes
pub mod Conditions
