pub mod Ring
pub mod RingIsList
