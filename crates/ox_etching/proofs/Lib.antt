pub mod Tapscripts
pub mod Opening
