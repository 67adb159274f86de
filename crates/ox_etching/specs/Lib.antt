pub mod Commitment
pub mod Etched
pub mod Minted
pub mod Mintable
