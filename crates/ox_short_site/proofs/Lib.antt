pub mod TornWrites
