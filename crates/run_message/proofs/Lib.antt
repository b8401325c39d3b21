pub mod SenderLaws
pub mod ServeLaws
