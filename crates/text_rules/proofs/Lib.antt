pub mod Cases
pub mod HexLaws
pub mod RoundTrip
pub mod InputLaws
pub mod OneTranscript
pub mod Samples
