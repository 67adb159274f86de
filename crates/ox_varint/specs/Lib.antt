pub mod Varint
