pub mod ClassLaws
pub mod TextLaws
pub mod WordLaws
pub mod OctetLaws
