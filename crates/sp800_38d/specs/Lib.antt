pub mod Increment
pub mod Product
pub mod Ghash
pub mod Gctr
pub mod Encryption
pub mod Decryption
