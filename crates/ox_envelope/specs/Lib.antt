pub mod Envelope
pub mod Opening
pub mod Tag
pub mod Mark
pub mod Payload
pub mod Walk
pub mod Id
pub mod Spelling
