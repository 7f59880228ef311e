pub mod IdlePasses
