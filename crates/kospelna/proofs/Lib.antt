pub mod Numbers
pub mod Refusals
pub mod SendInverse
pub mod ReceiveInverse
pub mod FiguresLaws
pub mod IdentifyLaws
pub mod TalkLaws
pub mod GroupLaws
