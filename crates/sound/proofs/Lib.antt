pub mod SoundLaws
pub mod FlowLaws
pub mod SpeechLaws
pub mod FoldLaws
