pub mod Laws
pub mod TimesLoop
