pub mod NamesAreOneToOne
pub mod ReversedDigits
pub mod SpacedNames
pub mod NamesReadBack
pub mod CommitmentBytes
pub mod Decimals
pub mod LeastNameFalls
pub mod AmountValue
