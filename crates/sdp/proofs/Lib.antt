pub mod SdpLaws
