pub mod Allocation
pub mod Amounts
pub mod Balances
pub mod Dealing
pub mod Gifts
pub mod Kept
pub mod Laws
pub mod Asked
