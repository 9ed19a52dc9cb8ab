pub mod Tails
pub mod Members
pub mod MemberSteps
pub mod Coordinators
pub mod Scripts
pub mod Offers
