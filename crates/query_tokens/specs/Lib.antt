pub mod Classes
pub mod Laws
pub mod Lexemes
pub mod Scanner
pub mod Tokens
pub mod Words
